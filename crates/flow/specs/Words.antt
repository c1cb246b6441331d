-- Which indices a pointer can name: the word for index i, 2(i + 1) + 1 with its tag, is below 2 ^ 64. What a place must carry so that its
-- access is made of words. Assumes nothing.
use Rattle.std.specs.Prelude.{ℕ, ◌+◌, ◌<◌, ◌^◌}
use Rattle.definition.specs.declared.Ptr.{Ptr}

-- an index that a pointer can name
abbrev pub IsIndex : ℕ → Type 0
IsIndex i = i + 1 < 2 ^ 63

-- a pointer to such an index, or null
abbrev pub PtrFits : Ptr → Type 0
PtrFits Ptr.Null = Unit
PtrFits (Ptr.At s) = IsIndex s.0
