-- The balance: every item, be it a token, a slot or a node, occurs after a move as often as before it, once more if the move retires it
-- (`gained` of Moves), and less by what the move frees. Nothing is lost and nothing is made: an item waits in a place, goes from there into a
-- bag, with the bag into a node whose bag was empty, and is freed from there. Leans on the invariant for two things: a spare node has an empty bag,
-- and a slot that is registered had one. Assumes nothing.
use mathlib.Core.Path.{◌≡◌, refl, ap, sym, ◌∙◌}
use mathlib.Core.Logic.{◌≢◌}
use mathlib.Core.Bool.{Bool, true, false, true≢false}
use mathlib.Core.List.{List, [], ◌∷◌, ◌++◌}
use mathlib.Core.Option.{Option, none, some}
use Prim.Native.Nat.{ℕ, ◌+◌, ◌-◌, ◌<◌}
use native.Mathlib.Omega.{arith}
use Rattle.definition.specs.Base.{branch, Tab, put, sum, least}
use Rattle.definition.specs.Bags.{tokens}
use Rattle.definition.specs.Flow.{waiting}
use Rattle.definition.specs.Tables.{Shared}
use Rattle.definition.specs.Calls.{opens}
use Rattle.definition.specs.Public.{takes_node, new_participant}
use Rattle.definition.proofs.Base.{put_back, sum_ext, sum-put, least_marked}
use Rattle.definition.proofs.Within.{PlaceIn, WalkIn, PopIn, ThenIn}
use Rattle.theorems.specs.Waiting as W
use Rattle.theorems.proofs.Machine.{Machine, Sealed, with_aside, with_own, with_shared, works, followed, zip_put}
use Rattle.theorems.proofs.Ghost.{Use, Ghost, Turn}
use Rattle.theorems.proofs.Invariant.{waiting_item, same_item, times, waits, has, occurs, Fine}
use Rattle.theorems.proofs.Inv.{Inv, won_of, left_of, after_of, goes, stepped, Steps, called, Calls, registered, Registers}
use Rattle.theorems.proofs.Linked.{free_unused}
use Rattle.theorems.proofs.Nodes.{spare_is, kind_of, call_of}
use Rattle.theorems.proofs.Moves.{gained, gained_by, Bare, work_of, Deferred, Kind}
use Rattle.theorems.proofs.Types.{Node, Item, Deferring, Then, PushAt, Place, Participant, Work, After, Call}

-- the items that a work frees: those of the bag of the popped node
unfoldable pub freed_items : Work → Tab Sealed → List Item
freed_items Work.Nothing b = []
freed_items (Work.Put i) b = []
freed_items (Work.PutThenFree i n) b = (b n.0).holds
freed_items (Work.Seal n e) b = []

-- how often a work puts x into the bag
unfoldable put_times : Item → Work → ℕ
put_times x Work.Nothing = 0
put_times x (Work.Put i) = waits x (some i)
put_times x (Work.PutThenFree i n) = waits x (some i)
put_times x (Work.Seal n e) = 0

-- a work fits the machine: the node whose bag is freed is there; so is the spare one, it is marked free and its bag is empty
unfoldable pub Fit : ℕ → Tab Bool → Tab Sealed → Work → Type 0
Fit M free b Work.Nothing = Unit {0}
Fit M free b (Work.Put i) = Unit {0}
Fit M free b (Work.PutThenFree i n) = n.0 < M
Fit M free b (Work.Seal n e) = (n.0 < M) × ((free n.0 ≡ true) × ((b n.0).holds ≡ []))

-- ---- p's own part: what waits, and what is put into the bag

-- an item that is put into the bag, or waits, is there once
stored_items : (x : Item) (d : Deferring) → waits x none + put_times x (work_of d) ≡ waits x (some (waiting d))
unfolding work_of waiting put_times waits
stored_items x (Deferring.Token token) = omega arith
stored_items x (Deferring.Slot t c succ) = omega arith
stored_items x (Deferring.Node p head next) = omega arith

deferred-items : {d : Deferring} {w : Work} {pl' : Place} (x : Item) → Deferred d w pl' → waits x (waiting_item pl') + put_times x w ≡ waits x (some (waiting d))
unfolding Bare
deferred-items {d} x (Deferred.stored h) = rw h.0 (stored_items x d)
deferred-items x Deferred.waits = unfold waiting_item put_times in (omega arith)

-- what waits in a push does not depend on how far it is
push-waits : (f : Then) (a b : PushAt) → waiting_item (Place.Push f a) ≡ waiting_item (Place.Push f b)
unfolding waiting_item
push-waits (Then.Defer d) a b = refl
push-waits Then.Flush a b = refl
push-waits Then.Finalize a b = refl

-- what waits and what is put is what waited and what is retired
own_items : {p : ℕ} {spare : Node} {s s' : Shared} {pl : Place} {v : Turn} {i : Option Item} {w : Work} {pl' : Place} (x : Item) → Kind p spare s s' pl v i w pl'
    → waits x (waiting_item pl') + put_times x w ≡ waits x (waiting_item pl) + waits x i
unfolding waiting_item waiting waits put_times Bare
own_items x (Kind.idle h k) = rw k.waits
own_items x (Kind.enlists h k) = rw k.0
own_items {spare = spare} x (Kind.seals {f} h) = rw (push-waits f (PushAt.Tail spare) PushAt.Epoch)
own_items x (Kind.links {f} {new} {onto} h) = rw (push-waits f (PushAt.Move new onto) (PushAt.Link new onto))
own_items x (Kind.pops h k) = refl
own_items x (Kind.unlinks h e k) = let z = deferred-items x k in omega arith
own_items x (Kind.retires h e k) = let z = deferred-items x k in omega arith
own_items x (Kind.moves h e k) = let z = deferred-items x k in omega arith
own_items x (Kind.pushes h k) = let z = deferred-items x k in omega arith
own_items x (Kind.accepts h k) = let z = deferred-items x k in omega arith

-- ---- sums

-- an item at the end of a bag
times_end : (x i : Item) (l : List Item) → times x (l ++ i ∷ []) ≡ times x l + waits x (some i)
unfolding times waits
times_end x i [] = omega arith
times_end x i (j ∷ l) = let h = times_end x i l in omega arith

-- the participants' part, where p's record and bag change; and where only its record does
sum_own : (x : Item) (N p : ℕ) (o : Tab Participant) (h : Tab (List Item)) (o' : Participant) (b' : List Item) → p < N
    → sum N (λ q. has x (put o p o' q) (put h p b' q)) + has x (o p) (h p) ≡ sum N (λ q. has x (o q) (h q)) + has x o' b'
sum_own x N p o h o' b' hp =
    rw (sum_ext N (λ q. has x (put o p o' q) (put h p b' q)) (put (λ q. has x (o q) (h q)) p (has x o' b')) (λ q _. zip_put (has x) o h p o' b' q))
    (sum-put N (λ (n : ℕ). n) (λ q. has x (o q) (h q)) p (has x o' b') hp)

sum-record : (x : Item) (N p : ℕ) (o : Tab Participant) (h : Tab (List Item)) (o' : Participant) → p < N
    → sum N (λ q. has x (put o p o' q) (h q)) + has x (o p) (h p) ≡ sum N (λ q. has x (o q) (h q)) + has x o' (h p)
sum-record x N p o h o' hp =
    rw (sum_ext N (λ q. has x (put o p o' q) (h q)) (λ q. has x (put o p o' q) (put h p (h p) q)) (λ q _. ap (has x (put o p o' q)) (sym (put_back h p q))))
    (sum_own x N p o h o' (h p) hp)

-- the nodes' part, where one bag changes
sum-bags : (x : Item) (M n : ℕ) (b : Tab Sealed) (c : Sealed) → n < M
    → sum M (λ j. times x (put b n c j).holds) + times x (b n).holds ≡ sum M (λ j. times x (b j).holds) + times x c.holds
sum-bags x M n b c h = sum-put M (λ (k : Sealed). times x k.holds) b n c h

-- ---- the machine

-- after any work: by what waits and what is put
balance_work : (x : Item) (N M p k : ℕ) (m : Machine) (o' : Participant) (w : Work) → p < N → Fit M m.node_free m.bag w
    → occurs N M (with_aside k (with_own p o' (works p w m))) x + times x (freed_items w m.bag) + waits x (waiting_item (m.own p).place)
    ≡ occurs N M m x + waits x (waiting_item o'.place) + put_times x w
unfolding occurs works freed_items put_times Fit times has
balance_work x N M p k m o' Work.Nothing hp fit =
    let a = sum-record x N p m.own m.held o' hp in omega arith
balance_work x N M p k m o' (Work.Put i) hp fit =
    let a = sum_own x N p m.own m.held o' (m.held p ++ i ∷ []) hp in
    let b = times_end x i (m.held p) in
    omega arith
balance_work x N M p k m o' (Work.PutThenFree i n) hp fit =
    let a = sum_own x N p m.own m.held o' (m.held p ++ i ∷ []) hp in
    let b = times_end x i (m.held p) in
    let c = sum-bags x M n.0 m.bag (record { epoch = (m.bag n.0).epoch; holds = [] }) fit in
    omega arith
balance_work x N M p k m o' (Work.Seal n e) hp fit =
    let a = sum_own x N p m.own m.held o' [] hp in
    let c = sum-bags x M n.0 m.bag (record { epoch = e.0; holds = m.held p }) fit.0 in
    let z : times x (m.bag n.0).holds ≡ 0 = rw fit.1.1 in
    omega arith

-- every kind of move has a work that fits
deferred-fits : (N M : ℕ) (free : Tab Bool) (b : Tab Sealed) (d : Deferring) {w : Work} {pl' : Place} → Deferred d w pl' → ThenIn N M (Then.Defer d) → Fit M free b w
unfolding Fit ThenIn work_of
deferred-fits N M free b (Deferring.Token token) (Deferred.stored k) h = tt
deferred-fits N M free b (Deferring.Slot t c succ) (Deferred.stored k) h = tt
deferred-fits N M free b (Deferring.Node q head next) (Deferred.stored k) h = h.1.1
deferred-fits N M free b d Deferred.waits h = tt

token_fits : {token : ℕ} {w : Work} {pl' : Place} (M : ℕ) (free : Tab Bool) (b : Tab Sealed) → Deferred (Deferring.Token token) w pl' → Fit M free b w
unfolding Fit work_of
token_fits M free b (Deferred.stored k) = tt
token_fits M free b Deferred.waits = tt

-- every kind
kind_fits : {p : ℕ} {spare : Node} {s s' : Shared} {pl : Place} {v : Turn} {i : Option Item} {w : Work} {pl' : Place} (N M : ℕ) (free : Tab Bool) (b : Tab Sealed)
    → Kind p spare s s' pl v i w pl' → PlaceIn N M pl → (takes_node pl ≡ true → (spare.0 < M) × ((free spare.0 ≡ true) × ((b spare.0).holds ≡ []))) → Fit M free b w
unfolding Fit PlaceIn WalkIn PopIn ThenIn takes_node
kind_fits N M free b (Kind.idle h k) within taking = tt
kind_fits N M free b (Kind.enlists h k) within taking = tt
kind_fits N M free b (Kind.seals h) within taking = taking refl
kind_fits N M free b (Kind.links h) within taking = tt
kind_fits N M free b (Kind.pops h k) within taking = tt
kind_fits N M free b (Kind.unlinks h e k) within taking = deferred-fits N M free b _ k within
kind_fits N M free b (Kind.retires h e k) within taking = deferred-fits N M free b _ k within
kind_fits N M free b (Kind.moves h e k) within taking = deferred-fits N M free b _ k within
kind_fits N M free b (Kind.pushes h k) within taking = deferred-fits N M free b _ k within.0
kind_fits N M free b (Kind.accepts h k) within taking = token_fits M free b k

-- for what follows any access or call of one of the ten kinds
pub balance-goes : (N M p : ℕ) {spare : Node} (m : Machine) {v : Turn} {i : Option Item} (s : Shared) (a : After) (x : Item) → p < N
    → Kind p spare m.shared s (m.own p).place v i a.work a.participant.place → Fit M m.node_free m.bag a.work
    → occurs N M (goes p m s a) x + times x (freed_items a.work m.bag) ≡ occurs N M m x + waits x i
unfolding goes followed occurs
balance-goes N M p m s a x hp kind fit =
    let h = balance_work x N M p (m.aside - (m.own p).share + a.participant.share) (with_shared s m) a.participant a.work hp fit in
    let k = own_items x kind in
    omega arith

-- ---- a step

-- what a step of p retires
abbrev gained_of : (M p : ℕ) → Machine → Option Item
gained_of M p m = gained (m.own p).place (won_of M p m) m.shared.queue_tail

module _ (N M p : ℕ) (m : Machine) (g : Ghost) (inv : Inv N M m g) (steps : Steps N M p m) where
  -- a node that is taken is marked free and holds nothing
  spare_empty : takes_node (m.own p).place ≡ true → (least M m.node_free < M) × ((m.node_free (least M m.node_free) ≡ true) × ((m.bag (least M m.node_free)).holds ≡ []))
  spare_empty h =
      let lt = (steps.spare h).0 in
      let marked = least_marked M m.node_free lt in
      (lt, (marked, inv.bagged.spare (least M m.node_free) lt (spare_is (g.node_use (least M m.node_free)) (sym (inv.used.bits (least M m.node_free) lt) ∙ marked))))

  -- the work of a step fits
  pub step-fits : Fit M m.node_free m.bag (after_of M p m).work
  step-fits = kind_fits N M m.node_free m.bag (kind_of N M p m g inv steps) (inv.ranged.places p steps.here) spare_empty

  -- THE BALANCE of a step
  pub balance-step : (x : Item) → occurs N M (stepped M p m) x + times x (freed_items (after_of M p m).work m.bag) ≡ occurs N M m x + waits x (gained_of M p m)
  unfolding stepped
  balance-step x = balance-goes N M p m (left_of M p m) (after_of M p m) x steps.here (kind_of N M p m g inv steps) step-fits

-- ---- a call

module _ (N M p : ℕ) (c : Call) (m : Machine) (g : Ghost) (inv : Inv N M m g) (calls : Calls N M p c m) where
  -- a call takes no node
  takes_none : takes_node (m.own p).place ≡ false
  takes_none = ap takes_node calls.resting ∙ (unfold takes_node in refl)

  -- its work fits
  pub call-fits : Fit M m.node_free m.bag (opens N c (m.own p)).work
  call-fits = kind_fits N M m.node_free m.bag (call_of N M p c m g inv calls) (inv.ranged.places p calls.here) (λ h. absurd (true≢false (sym h ∙ takes_none)))

  -- THE BALANCE of a call: a defer brings its token
  pub balance-call : (x : Item) → occurs N M (called N p c m) x + times x (freed_items (opens N c (m.own p)).work m.bag) ≡ occurs N M m x + waits x (gained_by c)
  unfolding called goes
  balance-call x = balance-goes N M p m m.shared (opens N c (m.own p)) x calls.here (call_of N M p c m g inv calls) call-fits

-- ---- a registering: the record of a free slot held nothing, and holds nothing afterwards

-- a place where nothing waits, and an empty bag
has_none : (x : Item) (o : Participant) (b : List Item) → waiting_item o.place ≡ none → b ≡ [] → has x o b ≡ 0
unfolding has times waits
has_none x o b h k = rw (h, k)

-- nothing waits at rest, nor where registering begins
rest-waits : waiting_item Place.Rest ≡ none
unfolding waiting_item
rest-waits = refl

new_waits : waiting_item new_participant.place ≡ none
unfolding waiting_item new_participant
new_waits = refl

module _ (N M p : ℕ) (m : Machine) (g : Ghost) (inv : Inv N M m g) (registers : Registers N p m) where
  pub unused : g.slot_use p ≡ Use.unused
  unused = free_unused N m g inv.records p registers.here registers.free

  -- a free slot is at rest, with an empty bag
  pub free_quiet : ((m.own p).place ≡ Place.Rest) × (m.held p ≡ [])
  free_quiet = unfold Fine in (let h = rw unused at (inv.records.fine p registers.here) in (h.0, h.1.1.0))

  -- THE BALANCE of a registering: nothing changes
  pub balance-register : (x : Item) → occurs N M (registered p m) x ≡ occurs N M m x
  unfolding occurs registered
  balance-register x =
      let a = sum_own x N p m.own m.held new_participant [] registers.here in
      let b = has_none x (m.own p) (m.held p) (ap waiting_item free_quiet.0 ∙ rest-waits) free_quiet.1 in
      let c = has_none x new_participant [] new_waits refl in
      omega arith

-- ---- tokens: none is lost, and only a defer brings one

-- the tokens that come out of a freed bag are those that stood in it
pub tokens-times : (t : ℕ) (l : List Item) → W.times t (tokens l) ≡ times (Item.Token t) l
unfolding W.times tokens times same_item branch
tokens-times t [] = refl
tokens-times t (Item.Token u ∷ l) = rw (tokens-times t l)
tokens-times t (Item.Node n ∷ l) = omega (arith, tokens-times t l)
tokens-times t (Item.Slot s ∷ l) = omega (arith, tokens-times t l)

-- whether a call is a defer of this token: 1 or 0
unfoldable pub accepted_by : ℕ → Call → ℕ
accepted_by t c = waits (Item.Token t) (gained_by c)

-- a step retires slots and nodes only
no_token : {p : ℕ} {spare : Node} {s s' : Shared} {pl : Place} {v : Turn} {i : Option Item} {w : Work} {pl' : Place} (t : ℕ) → Kind p spare s s' pl v i w pl' → pl ≢ Place.Rest
    → waits (Item.Token t) i ≡ 0
unfolding waits same_item branch
no_token t (Kind.idle h k) ne = refl
no_token t (Kind.enlists h k) ne = refl
no_token t (Kind.seals h) ne = refl
no_token t (Kind.links h) ne = refl
no_token t (Kind.pops h k) ne = refl
no_token t (Kind.unlinks h e k) ne = refl
no_token t (Kind.retires h e k) ne = refl
no_token t (Kind.moves h e k) ne = refl
no_token t (Kind.pushes h k) ne = refl
no_token t (Kind.accepts h k) ne = absurd (ne refl)

-- after a step: what occurs and what was freed is what occurred
pub tokens-step : (N M p : ℕ) (m : Machine) (g : Ghost) → Inv N M m g → Steps N M p m → (t : ℕ)
    → occurs N M (stepped M p m) (Item.Token t) + W.times t (tokens (freed_items (after_of M p m).work m.bag)) ≡ occurs N M m (Item.Token t)
tokens-step N M p m g inv steps t =
    let a = balance-step N M p m g inv steps (Item.Token t) in
    let b = tokens-times t (freed_items (after_of M p m).work m.bag) in
    let c = no_token t (kind_of N M p m g inv steps) steps.running in
    omega arith

-- after a call: and what was accepted
pub tokens-call : (N M p : ℕ) (c : Call) (m : Machine) (g : Ghost) → Inv N M m g → Calls N M p c m → (t : ℕ)
    → occurs N M (called N p c m) (Item.Token t) + W.times t (tokens (freed_items (opens N c (m.own p)).work m.bag)) ≡ occurs N M m (Item.Token t) + accepted_by t c
unfolding accepted_by
tokens-call N M p c m g inv calls t =
    let a = balance-call N M p c m g inv calls (Item.Token t) in
    let b = tokens-times t (freed_items (opens N c (m.own p)).work m.bag) in
    omega arith
