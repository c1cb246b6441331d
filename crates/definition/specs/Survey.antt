-- The survey: one report for each participant, and nothing else changed. Added by design; the distance is epoch.rs, `wrapping_sub`, of the
-- global epoch from the participant's word. Assumes nothing.
use Rattle.std.specs.Prelude.{Bool, true, false, ◌&&◌, List, ℕ, eqb, pos, length}
use Rattle.epoch.specs.Epoch.{wrapping_sub}
use Rattle.definition.specs.Base.{branch, listed}
use Rattle.definition.specs.Links.{is_tagged}
use Rattle.definition.specs.Tables.{Tables}
use Rattle.definition.specs.Codec.{place_of}
use Rattle.definition.specs.Ranges.{within_limits}
use Rattle.definition.specs.Layout.{Lent, sized, tables_of}
use Rattle.definition.specs.Public.{damaged}
use Rattle.definition.specs.Types.{Place, Answer, Report}

-- whether a place is one of registering
unfoldable pub is_register : Place → Bool
is_register Place.Rest = false
is_register (Place.Register a) = true
is_register (Place.PinEpoch k) = false
is_register (Place.PinWord k e) = false
is_register (Place.Repin a) = false
is_register Place.UnpinWord = false
is_register (Place.AdvanceEpoch k) = false
is_register (Place.Walk t a) = false
is_register (Place.AdvanceWord t curr succ) = false
is_register (Place.AdvanceStore t) = false
is_register (Place.Pop p a) = false
is_register (Place.Push then a) = false
is_register Place.FinalWord = false
is_register Place.FinalTag = false

-- 0 free, 1 registering, 2 registered, 3 deleted
unfoldable pub state_of : Tables → ℕ → ℕ
state_of t p = branch (t.slot_free p) 0 (branch (is_tagged (t.shared.entry_next p)) 3 (branch (is_register (place_of (t.own p).code)) 1 2))

-- for states 0 and 3 all but the state are zero
unfoldable pub report_of : Tables → ℕ → Report
report_of t p = branch (eqb (state_of t p) 0) (empty 0) (branch (eqb (state_of t p) 3) (empty 3) (record {
  state = state_of t p;
  guards = (t.own p).counts.guards;
  handles = (t.own p).counts.handles;
  held = (t.own p).held;
  distance = wrapping_sub t.shared.global_epoch (t.shared.word p);
}))
  where
    empty : ℕ → Report
    empty s = record { state = s; guards = 0; handles = 0; held = 0; distance = pos 0 }

-- the answer, and the list of reports afterwards: refusals 2, 1
pub record Surveyed : Type 0 where
  pub answer : Answer
  pub reports : List Report

unfoldable pub survey_lent : (N M : ℕ) → Lent → List Report → Surveyed
survey_lent N M l before =
    branch (within_limits N M && sized N M l && eqb (length before) N)
    (branch (damaged N M (tables_of N M l))
    (record { answer = Answer.Refused 1; reports = before })
    (record { answer = Answer.Done 0 0; reports = listed N (report_of (tables_of N M l)) }))
    (record { answer = Answer.Refused 2; reports = before })
