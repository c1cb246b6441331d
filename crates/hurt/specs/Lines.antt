-- What is printed of a moment. Bytes are numbers below 256; letters are their ASCII codes. Assumes nothing.
use Rattle.std.specs.Prelude.{List, [], ◌∷◌, ◌++◌, ℕ, decimal}
use Rattle.hurt.specs.declared.Tally.{Tally}

-- ` more, sum S, changed by a refusal W`, and the line's end
abbrev pub rest_of : Tally → List ℕ
rest_of t = 32 ∷ 109 ∷ 111 ∷ 114 ∷ 101 ∷ 44 ∷ 32 ∷ 115 ∷ 117 ∷ 109 ∷ 32 ∷ (decimal t.sum
    ++ 44 ∷ 32 ∷ 99 ∷ 104 ∷ 97 ∷ 110 ∷ 103 ∷ 101 ∷ 100 ∷ 32 ∷ 98 ∷ 121 ∷ 32 ∷ 97 ∷ 32 ∷ 114 ∷ 101 ∷ 102 ∷ 117 ∷ 115 ∷ 97 ∷ 108 ∷ 32 ∷ (decimal t.wrong
    ++ 10 ∷ []))

-- `D damaged, R refused, K done, M`, and that
abbrev pub line_of : Tally → List ℕ
line_of t = decimal t.damaged ++ 32 ∷ 100 ∷ 97 ∷ 109 ∷ 97 ∷ 103 ∷ 101 ∷ 100 ∷ 44 ∷ 32 ∷ (decimal t.refused
    ++ 32 ∷ 114 ∷ 101 ∷ 102 ∷ 117 ∷ 115 ∷ 101 ∷ 100 ∷ 44 ∷ 32 ∷ (decimal t.done
    ++ 32 ∷ 100 ∷ 111 ∷ 110 ∷ 101 ∷ 44 ∷ 32 ∷ (decimal t.more ++ rest_of t)))
