-- A step on the lent lists: what must have been shown of them before it is made, and that what it leaves is the definition's. Assumes nothing.
use Rattle.std.specs.Prelude.{◌≡◌, false, List, ℕ, ◌≤◌, ◌<◌, length}
use Rattle.definition.specs.Layout.{Lent, tables_of, lent_of}
use Rattle.definition.specs.Public.{missing}
use Rattle.definition.specs.Step.{Out}
use Rattle.definition.specs.declared.Answer.{Answer}
use Rattle.bags.specs.Bags.{filled}
use Rattle.ranges.specs.Sound.{Sound}

-- a step of participant p passes every check: there is a node where it must take one, and a place for every token of a bag
pub record Steps (N M p : ℕ) (l : Lent) (f : List ℕ) : Type 0 where
  pub sound : Sound N M l
  pub below : p < N
  pub present : missing N M p (tables_of N M l) ≡ false
  pub places : 64 ≤ length f

-- what is answered, and the lists afterwards, are those of an outcome on tables; its tokens are at the front of the list for them
pub record Leaves (N M : ℕ) (out : Out) (f : List ℕ) (r : Answer) (l' : Lent) (f' : List ℕ) : Type 0 where
  pub answer : r ≡ out.answer
  pub lent : l' ≡ lent_of N M out.tables
  pub freed : f' ≡ filled out.freed f
