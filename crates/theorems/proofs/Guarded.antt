-- A guard is a pinned word: a participant that is there, not deleted and at rest is pinned exactly if it has a guard. It is the clause of Records for a
-- live participant at rest; whoever is free, registering or out is not there, not at rest, or deleted. Assumes nothing.
use mathlib.Core.Path.{◌≡◌, sym, ◌∙◌, subst}
use mathlib.Core.Bool.{Bool, true, false, true≢false}
use mathlib.Core.List.{List}
use Prim.Native.Nat.{ℕ, ◌^◌, ◌≤◌, ◌<◌}
use lib.Dec.{leb}
use borrow.Author.Tests.{not-false}
use Rattle.epoch.specs.Epoch.{is_pinned}
use Rattle.definition.specs.Links.{is_tagged}
use Rattle.definition.specs.Tables.{Tables}
use Rattle.definition.specs.Codec.{participant_of}
use Rattle.definition.specs.Ranges.{is_rest, fresh}
use Rattle.definition.specs.Public.{the, running}
use Rattle.theorems.specs.OnTables.{Event, after, advances}
use Rattle.theorems.proofs.Machine.{view}
use Rattle.theorems.proofs.Ghost.{Use}
use Rattle.theorems.proofs.Invariant.{Live, InList, Fine, Registers, is_unused}
use Rattle.theorems.proofs.Stored.{is_rest_lem}
use Rattle.theorems.proofs.Runs.{sound-run}
use Rattle.theorems.proofs.Types.{Item, Place, Participant}

-- by the use of the slot
by_use : (u : Use) (tag pinned : Bool) (o : Participant) (b : List Item) → Fine u tag pinned o b → is_unused u ≡ false → tag ≡ false → o.place ≡ Place.Rest
    → pinned ≡ leb 1 o.counts.guards
unfolding Fine InList Live Registers is_unused
by_use Use.unused tag pinned o b f e t r = absurd (true≢false e)
by_use Use.registering tag pinned o b f e t r = absurd (subst (λ (pl : Place). Registers pl) r f.0)
by_use Use.linked true pinned o b f e t r = absurd (true≢false t)
by_use Use.linked false pinned o b f e t r = (subst (λ (pl : Place). Live pl pinned o.counts.guards o.share b) r f).1
by_use Use.out tag pinned o b f e t r = absurd (true≢false (sym f.1 ∙ t))

pub guarded : (N M : ℕ) → 1 ≤ N → 2 ≤ M → (l : List Event) → advances N M l (fresh N M) < 2 ^ 62 → (d : ℕ) → d < N
    → let t : Tables = after N M l (fresh N M) in t.slot_free d ≡ false → is_tagged (t.shared.entry_next d) ≡ false → running d t ≡ false
    → is_pinned (t.shared.word d) ≡ leb 1 (t.own d).counts.guards
unfolding running participant_of
guarded N M h_n h_m l short d hd here untagged rest =
    let t : Tables = after N M l (fresh N M) in
    let s = (sound-run N M h_n h_m l short).0 in
    by_use (s.ghost.slot_use d) (is_tagged (t.shared.entry_next d)) (is_pinned (t.shared.word d)) (the d t) ((view t).held d)
    (s.inv.records.fine d hd) (sym (s.inv.records.bits d hd) ∙ here) untagged (is_rest_lem (the d t).place (not-false (is_rest (the d t).place) rest))
