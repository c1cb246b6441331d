-- What the places of list.rs must carry so that their accesses are made of words: indices that a pointer can name. Assumes nothing.
use Rattle.flow.specs.Words.{IsIndex, PtrFits}
use Rattle.definition.specs.declared.RegisterAt.{RegisterAt}
use Rattle.definition.specs.declared.Slot.{Slot}
use Rattle.definition.specs.declared.WalkAt.{WalkAt}

-- `List::insert`: the successor, and at last the inserter's own entry
abbrev pub RegisterFits : Slot → RegisterAt → Type 0
RegisterFits me RegisterAt.Head = Unit
RegisterFits me (RegisterAt.Next next) = PtrFits next
RegisterFits me (RegisterAt.Link next) = IsIndex me.0 × PtrFits next

-- `Iter::next`: the entry that is unlinked, and its successor
abbrev pub WalkFits : WalkAt → Type 0
WalkFits WalkAt.Head = Unit
WalkFits (WalkAt.Next c) = Unit
WalkFits (WalkAt.Unlink c succ) = IsIndex c.curr.0 × PtrFits succ
WalkFits WalkAt.Stalled = Unit
