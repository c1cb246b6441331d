-- The types of src/lib.rt under one roof, so that a file of the definition names them in one line. A constructor is written behind
-- its type, as in the code: `Place.Rest`, `WalkAt.Next c`. Three ways to write an index or a word as a value of its own type.
use Rattle.std.specs.Prelude.{ℕ}
pub use Rattle.epoch.specs.declared.Epoch.{Epoch}
pub use Rattle.definition.specs.declared.Slot.{Slot}
pub use Rattle.definition.specs.declared.Node.{Node}
pub use Rattle.definition.specs.declared.Ptr.{Ptr}
pub use Rattle.definition.specs.declared.Pred.{Pred}
pub use Rattle.definition.specs.declared.Cursor.{Cursor}
pub use Rattle.definition.specs.declared.Item.{Item}
pub use Rattle.definition.specs.declared.Owner.{Owner}
pub use Rattle.definition.specs.declared.Try.{Try}
pub use Rattle.definition.specs.declared.Pops.{Pops}
pub use Rattle.definition.specs.declared.Deferring.{Deferring}
pub use Rattle.definition.specs.declared.Then.{Then}
pub use Rattle.definition.specs.declared.RegisterAt.{RegisterAt}
pub use Rattle.definition.specs.declared.RepinAt.{RepinAt}
pub use Rattle.definition.specs.declared.WalkAt.{WalkAt}
pub use Rattle.definition.specs.declared.PopAt.{PopAt}
pub use Rattle.definition.specs.declared.PushAt.{PushAt}
pub use Rattle.definition.specs.declared.Place.{Place}
pub use Rattle.definition.specs.declared.Counts.{Counts}
pub use Rattle.definition.specs.declared.Participant.{Participant}
pub use Rattle.definition.specs.declared.Code.{Code}
pub use Rattle.definition.specs.declared.Record.{Record}
pub use Rattle.definition.specs.declared.Word.{Word}
pub use Rattle.definition.specs.declared.Ask.{Ask}
pub use Rattle.definition.specs.declared.Seen.{Seen}
pub use Rattle.definition.specs.declared.Kind.{Kind}
pub use Rattle.definition.specs.declared.Access.{Access}
pub use Rattle.definition.specs.declared.Work.{Work}
pub use Rattle.definition.specs.declared.End.{End}
pub use Rattle.definition.specs.declared.After.{After}
pub use Rattle.definition.specs.declared.Call.{Call}
pub use Rattle.definition.specs.declared.Answer.{Answer}
pub use Rattle.definition.specs.declared.Report.{Report}

-- an index as a slot, an index as a node, a word as an epoch
abbrev pub slot : ℕ → Slot
slot i = record { 0 = i }

abbrev pub node : ℕ → Node
node i = record { 0 = i }

abbrev pub epoch : ℕ → Epoch
epoch w = record { 0 = w }
