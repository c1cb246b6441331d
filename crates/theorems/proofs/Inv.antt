-- The whole invariant, and the moves that keep it: a step, a call, a registering, a marked step that fails, each as it changes the machine and the ghost. Each group of
-- clauses is shown kept in a module of its own, from the whole invariant before the move. Assumes nothing.
use mathlib.Core.Path.{◌≡◌, refl}
use mathlib.Core.Logic.{◌≢◌}
use mathlib.Core.Bool.{Bool, true, false}
use mathlib.Core.List.{[]}
use Prim.Native.Nat.{ℕ, ◌+◌, ◌/◌, ◌%◌, ◌^◌, ◌≤◌, ◌<◌}
use Rattle.epoch.specs.Epoch.{starting}
use Rattle.definition.specs.Base.{put, count, least}
use Rattle.definition.specs.Links.{null}
use Rattle.definition.specs.Bags.{max_objects}
use Rattle.definition.specs.Tables.{Shared, Tables, write}
use Rattle.definition.specs.Tables as T
use Rattle.definition.specs.Codec.{participant_of}
use Rattle.definition.specs.Flow.{at}
use Rattle.definition.specs.Rule.{Rule, asks, follows, sees, leaves}
use Rattle.definition.specs.Internal.{rule}
use Rattle.definition.specs.Calls.{max_count, lacks, count_full, token_above, needs, opens}
use Rattle.definition.specs.Step.{follow, rule_at, take_step}
use Rattle.definition.specs.Public.{takes_node, the, new_participant}
use Rattle.definition.specs.Marks.{back}
use Rattle.definition.proofs.Within.{PlaceIn, ItemIn}
use Rattle.theorems.proofs.Machine.{Machine, view, with_shared, with_own, with_held, with_free, followed, view_own, view_follow}
use Rattle.theorems.proofs.Length.{follows-fits, begins-fits, Fitting}
use Rattle.theorems.proofs.Ghost.{Use, Ghost, Turn, turn_of, G, moved}
use Rattle.theorems.proofs.Invariant.{Records, Epochs, Listed, Queued, Held, Used, Bagged, Roomy, Each}
use Rattle.theorems.proofs.Types.{Ptr, RegisterAt, Place, Word, After, Call}

-- numbers in range: pointers, counts, bags, what places carry
pub record Ranged (N M : ℕ) (m : Machine) : Type 0 where
  pub places : (q : ℕ) → q < N → PlaceIn N M (m.own q).place
  pub list_head : (m.shared.list_head / 2 ≤ N) × (m.shared.list_head % 2 ≡ 0)
  pub entry_next : (q : ℕ) → q < N → m.shared.entry_next q / 2 ≤ N
  pub queue_head : (1 ≤ m.shared.queue_head / 2) × ((m.shared.queue_head / 2 ≤ M) × (m.shared.queue_head % 2 ≡ 0))
  pub queue_tail : (1 ≤ m.shared.queue_tail / 2) × ((m.shared.queue_tail / 2 ≤ M) × (m.shared.queue_tail % 2 ≡ 0))
  pub node_next : (n : ℕ) → n < M → (m.shared.node_next n / 2 ≤ M) × (m.shared.node_next n % 2 ≡ 0)
  pub counts : (q : ℕ) → q < N → ((m.own q).counts.guards ≤ max_count) × ((m.own q).counts.handles ≤ max_count)
  pub held : (q : ℕ) → q < N → ((m.own q).held ≤ max_objects) × Each (ItemIn N M) (m.held q)
  pub bags : (n : ℕ) → n < M → Each (ItemIn N M) (m.bag n).holds
  pub shares : (q : ℕ) → q < N → (m.own q).place ≡ Place.Rest → (m.own q).share ≡ 0

pub record Inv (N M : ℕ) (m : Machine) (g : Ghost) : Type 0 where
  pub ranged : Ranged N M m
  pub records : Records N m g
  pub epochs : Epochs N M m g
  pub listed : Listed N m g
  pub queued : Queued M m g
  pub held : Held N M m g
  pub used : Used N M m g
  pub bagged : Bagged N M m g
  pub roomy : Roomy N M m g

-- ---- a step of participant p

unfoldable pub rule_of : (M p : ℕ) → Machine → Rule
rule_of M p m = rule (record { 0 = p }) (record { 0 = least M m.node_free }) (λ n. (m.bag n.0).epoch) (m.own p) (m.own p).place

unfoldable pub won_of : (M p : ℕ) → Machine → Bool
won_of M p m = (sees (asks (rule_of M p m)) m.shared).won

unfoldable pub left_of : (M p : ℕ) → Machine → Shared
left_of M p m = leaves (asks (rule_of M p m)) m.shared

unfoldable pub after_of : (M p : ℕ) → Machine → After
after_of M p m = follows (rule_of M p m) (sees (asks (rule_of M p m)) m.shared)

-- the machine and the ghost after an access that left the shared words s, with what follows
unfoldable pub goes : (p : ℕ) → Machine → Shared → After → Machine
goes p m s a = followed p a (with_shared s m)

unfoldable pub goes_ghost : (p : ℕ) → Machine → Ghost → Bool → Shared → After → Ghost
goes_ghost p m g won s a = moved (turn_of p (m.own p).place won) a.work m s g

unfoldable pub stepped : (M p : ℕ) → Machine → Machine
stepped M p m = goes p m (left_of M p m) (after_of M p m)

unfoldable pub stepped_ghost : (M p : ℕ) → Machine → Ghost → Ghost
stepped_ghost M p m g = goes_ghost p m g (won_of M p m) (left_of M p m) (after_of M p m)

-- a step that is not refused: p is there and runs, a node that it must take is there and its own, and the epoch is small
pub record Steps (N M p : ℕ) (m : Machine) : Type 0 where
  pub here : p < N
  pub present : m.slot_free p ≡ false
  pub running : (m.own p).place ≢ Place.Rest
  pub spare : takes_node (m.own p).place ≡ true → (least M m.node_free < M) × (1 ≤ (m.own p).share)
  pub small : G m < 2 ^ 62

-- ---- a call of participant p

unfoldable pub called : (N p : ℕ) → Call → Machine → Machine
called N p c m = followed p (opens N c (m.own p)) m

unfoldable pub called_ghost : (N p : ℕ) → Call → Machine → Ghost → Ghost
called_ghost N p c m g = moved Turn.quiet (opens N c (m.own p)).work m m.shared g

pub record Calls (N M p : ℕ) (c : Call) (m : Machine) : Type 0 where
  pub here : p < N
  pub present : m.slot_free p ≡ false
  pub resting : (m.own p).place ≡ Place.Rest
  pub untagged : m.shared.entry_next p % 2 ≡ 0
  pub able : lacks c (m.own p) ≡ 0
  pub below : count_full c (m.own p) ≡ false
  pub token : token_above c ≡ false
  pub room : needs N c (m.own p) + m.aside ≤ count M m.node_free

-- ---- registering: slot p, the smallest that is free

unfoldable pub registered : ℕ → Machine → Machine
registered p m = with_free (put m.slot_free p false) m.node_free (with_held p [] (with_own p new_participant
    (with_shared (write (Word.ParticipantWord (record { 0 = p })) starting (write (Word.EntryNext (record { 0 = p })) null m.shared)) m)))

unfoldable pub registered_ghost : ℕ → Ghost → Ghost
registered_ghost p g = record {
  slot_use = put g.slot_use p Use.registering;
  birth = g.birth;
  births = g.births;
  gpin = g.gpin;
  gone = g.gone;
  node_use = g.node_use;
  pos = g.pos;
  last = g.last;
  past = g.past;
}

pub record Registers (N p : ℕ) (m : Machine) : Type 0 where
  pub here : p < N
  pub free : m.slot_free p ≡ true

-- ---- a marked step of p at its link, whose exchange fails though the list's head is `next`, as the link expects

abbrev pub missed : ℕ → Ptr → Machine → Machine
missed p next m = with_own p (at (Place.Register (RegisterAt.Next next)) (m.own p)) m

pub record Misses (N p : ℕ) (next : Ptr) (m : Machine) : Type 0 where
  pub here : p < N
  pub stands : (m.own p).place ≡ Place.Register (RegisterAt.Link next)

-- ---- what the definition's step and call and a failing marked step do, seen on the machine

pub view_step : (M p : ℕ) (t : Tables) → view (take_step M p t).tables ≡ stepped M p (view t)
unfolding take_step rule_at stepped goes left_of after_of rule_of Fitting participant_of
view_step M p t =
    let r = rule (record { 0 = p }) (record { 0 = least M t.node_free }) (λ n. (t.bag n.0).epoch) (the p t) (the p t).place in
    view_follow p (follows r (sees (asks r) t.shared)) (T.with_shared (leaves (asks r) t.shared) t)
    (follows-fits (t.own p).held (record { 0 = p }) (record { 0 = least M t.node_free }) (λ n. (t.bag n.0).epoch) (the p t) (the p t).place (sees (asks r) t.shared) refl)

pub view_call : (N p : ℕ) (c : Call) (t : Tables) → view (follow p (opens N c (the p t)) t).tables ≡ called N p c (view t)
unfolding called opens Fitting participant_of
view_call N p c t = view_follow p (opens N c (the p t)) t (begins-fits (t.own p).held c _ refl)

pub view_back : (p : ℕ) (next : Ptr) (t : Tables) → view (back p next t).tables ≡ missed p next (view t)
unfolding participant_of
view_back p next t = view_own p _ t refl
