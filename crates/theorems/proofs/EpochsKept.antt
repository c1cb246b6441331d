-- Group E is kept whole, by every step, call and registering. What `Epochs` and `Walks` left for a step is said here of nodes: a bag is sealed with
-- the present global epoch, and a node that head and tail leave now is past at the present one; a node that is linked now has the last
-- position, so they have not left it. A call stores no word and begins no walk; a registering stores an unpinned word. Assumes nothing.
use mathlib.Core.Path.{◌≡◌, refl, ap, sym, ◌∙◌}
use mathlib.Core.Logic.{◌≢◌}
use mathlib.Core.Bool.{Bool, true, false, ◌&&◌, true≢false}
use mathlib.Core.Option.{Option, none}
use Prim.Native.Nat.{ℕ, ◌+◌, ◌≤◌, ◌<◌}
use native.Mathlib.Omega.{arith}
use native.Mathlib.Nat.{le_refl}
use lib.Dec.{ltb, leb}
use borrow.Author.Tests.{lt-ltb, leb-false}
use Rattle.epoch.specs.Epoch.{starting, is_pinned}
use Rattle.epoch.proofs.Laws.{is_pinned-starting}
use Rattle.definition.specs.Base.{branch, Tab, put}
use Rattle.definition.specs.Tables.{Shared, write}
use Rattle.definition.specs.Flow.{on, done, also, finalize, placed, defer}
use Rattle.definition.specs.Calls.{opens, begins}
use Rattle.definition.specs.Public.{new_participant}
use Rattle.definition.proofs.Base.{branch_ind, same?, put_ind, put_same, put_other}
use Rattle.theorems.proofs.Machine.{Machine, Sealed, with_shared, works, followed}
use Rattle.theorems.proofs.Ghost.{Use, NodeUse, Ghost, Turn, num, G, head_of, tail_of, low, use_turned, gone_turned, node_turned, pos_turned, last_turned, node_worked, gpin_after, past_after, moved}
use Rattle.theorems.proofs.Invariant.{Of, walk_epoch, pop_epoch, store_epoch, Pinned, Epochs}
use Rattle.theorems.proofs.Inv.{Inv, Steps, Calls, left_of, after_of, goes, goes_ghost, stepped, stepped_ghost, called, called_ghost, registered, registered_ghost}
use Rattle.theorems.proofs.Inv as I
use Rattle.theorems.proofs.Frames.{own_goes, epoch-goes, word-goes}
use Rattle.theorems.proofs.Moves.{work_of, Deferred, Kind}
use Rattle.theorems.proofs.Queue.{Lined, taken≢placed, freed_ind, freed_was}
use Rattle.theorems.proofs.Nodes.{Turned, kind_of, call_of, head_in, step_turned, still}
use Rattle.theorems.proofs.RecordsCalls.{begins_light, light_uses}
use Rattle.theorems.proofs.Walks.{walks_step, walks_call, walks_register}
use Rattle.theorems.proofs.Epochs.{of_none, gpin_same, mono, pins_after, carried-after, gone-after, tries_after}
use Rattle.theorems.proofs.Types.{Node, Item, Deferring, Place, Participant, Work, After, Call}

-- ---- bags and their seals

-- what is asked of the epoch with which a bag is sealed
unfoldable pub SealOf : (ℕ → Type 0) → Work → Type 0
SealOf P Work.Nothing = Unit {0}
SealOf P (Work.Put i) = Unit {0}
SealOf P (Work.PutThenFree i n) = Unit {0}
SealOf P (Work.Seal n e) = P e.0

-- a deferring seals nothing
deferred-seal : (P : ℕ → Type 0) (d : Deferring) (w : Work) (pl' : Place) → Deferred d w pl' → SealOf P w
unfolding SealOf work_of
deferred-seal P (Deferring.Token token) w pl' (Deferred.stored k) = tt
deferred-seal P (Deferring.Slot t c succ) w pl' (Deferred.stored k) = tt
deferred-seal P (Deferring.Node q head next) w pl' (Deferred.stored k) = tt
deferred-seal P d w pl' Deferred.waits = tt

-- what is sealed is sealed with the global epoch
pub kind_seal : (p : ℕ) (P : ℕ → Type 0) (spare : Node) (s s' : Shared) (pl : Place) (v : Turn) (i : Option Item) (w : Work) (pl' : Place)
    → Kind p spare s s' pl v i w pl' → P s.global_epoch → SealOf P w
unfolding SealOf
kind_seal p P spare s s' pl v i w pl' (Kind.idle h k) now = tt
kind_seal p P spare s s' pl v i w pl' (Kind.enlists h k) now = tt
kind_seal p P spare s s' pl v i w pl' (Kind.seals h) now = now
kind_seal p P spare s s' pl v i w pl' (Kind.links h) now = tt
kind_seal p P spare s s' pl v i w pl' (Kind.pops h k) now = tt
kind_seal p P spare s s' pl v i w pl' (Kind.unlinks h e k) now = deferred-seal P _ w pl' k
kind_seal p P spare s s' pl v i w pl' (Kind.retires h e k) now = deferred-seal P _ w pl' k
kind_seal p P spare s s' pl v i w pl' (Kind.moves h e k) now = deferred-seal P _ w pl' k
kind_seal p P spare s s' pl v i w pl' (Kind.pushes h k) now = deferred-seal P _ w pl' k
kind_seal p P spare s s' pl v i w pl' (Kind.accepts h k) now = deferred-seal P _ w pl' k

module _ (M p : ℕ) (m : Machine) (g : Ghost) (v : Turn) (s : Shared) (t : Turned M g m.shared v s) where
  -- a node in use after the access was in use before
  in_use : (x : ℕ) → node_turned v g.node_use x ≢ NodeUse.spare → g.node_use x ≢ NodeUse.spare
  in_use x ne e = ne (t.spare x e)

  -- the seal of a node in use, after the work
  seal_worked : (b : ℕ) (w : Work) → SealOf (λ e. num e ≤ b) w → ((x : ℕ) → x < M → g.node_use x ≢ NodeUse.spare → num (m.bag x).epoch ≤ b)
      → (x : ℕ) → x < M → node_worked w m (node_turned v g.node_use) x ≢ NodeUse.spare → num ((works p w (with_shared s m)).bag x).epoch ≤ b
  unfolding SealOf works node_worked
  seal_worked b Work.Nothing k h x hx ne = h x hx (in_use x ne)
  seal_worked b (Work.Put i) k h x hx ne = h x hx (in_use x ne)
  seal_worked b (Work.PutThenFree i n) k h x hx ne =
      let ne' : node_turned v g.node_use x ≢ NodeUse.spare =
      freed_ind (λ _ w. w ≢ NodeUse.spare → node_turned v g.node_use x ≢ NodeUse.spare) (m.bag n.0).holds x (λ _. false) (node_turned v g.node_use) (λ _ q. q) (λ _ q. absurd (q refl)) ne in
      put_ind (λ (c : Sealed). num c.epoch ≤ b) m.bag n.0 x _ (λ j. rw j (h x hx (in_use x ne'))) (λ _. h x hx (in_use x ne'))
  seal_worked b (Work.Seal n e) k h x hx ne = same? n.0 x
      (λ j. rw (← j, put_same m.bag n.0 (record { epoch = e.0; holds = m.held p })) k)
      (λ nj. rw (put_other m.bag n.0 x (record { epoch = e.0; holds = m.held p }) nj)
      (h x hx (in_use x (rw (put_other (node_turned v g.node_use) n.0 x NodeUse.taken nj) at ne))))

-- ---- nodes that head and tail have left

-- a node placed after a turn was placed before, or is linked now and has the last position
placed_turned : {P : Type 0} (v : Turn) (u : Tab NodeUse) (pos : Tab ℕ) (last x : ℕ) → node_turned v u x ≡ NodeUse.placed
    → (u x ≡ NodeUse.placed → P) → (v ≡ Turn.links x → pos_turned v last pos x ≡ last_turned v last → P) → P
unfolding node_turned pos_turned last_turned
placed_turned Turn.quiet u pos last x h old new = old h
placed_turned (Turn.enlists i) u pos last x h old new = old h
placed_turned (Turn.unlinks i) u pos last x h old new = old h
placed_turned (Turn.links n) u pos last x h old new = same? n x
    (λ j. new (ap Turn.links j) (rw (← j, put_same pos n (last + 1)) refl))
    (λ nj. old (rw (put_other u n x NodeUse.placed nj) at h))

-- a node placed after the work was placed before it
pub placed_worked : (w : Work) (m : Machine) (u : Tab NodeUse) (x : ℕ) → node_worked w m u x ≡ NodeUse.placed → u x ≡ NodeUse.placed
unfolding node_worked
placed_worked Work.Nothing m u x h = h
placed_worked (Work.Put i) m u x h = h
placed_worked (Work.PutThenFree i n) m u x h = freed_was (m.bag n.0).holds u x h
placed_worked (Work.Seal n e) m u x h = put_ind (λ w. w ≡ NodeUse.placed → u x ≡ NodeUse.placed) u n.0 x NodeUse.taken (λ _ q. absurd (taken≢placed q)) (λ _ q. q) h

-- the epoch at which a node was left: the present one, or as before
past_le_lem : (e b lo lo' x : ℕ) (pos r : Tab ℕ) → e ≤ b → (pos x < lo → r x ≤ b) → pos x < lo' → past_after e lo lo' pos r x ≤ b
unfolding past_after
past_le_lem e b lo lo' x pos r le h lt = branch_ind (λ (k : ℕ). k ≤ b) (leb lo (pos x) && ltb (pos x) lo') (λ _. le) (λ z. go (leb lo (pos x)) refl z)
  where
    go : (c : Bool) → leb lo (pos x) ≡ c → (c && ltb (pos x) lo') ≡ false → r x ≤ b
    go true i z = absurd (true≢false (sym (lt-ltb (pos x) lo' lt) ∙ z))
    go false i z = h (leb-false lo (pos x) i)

-- a step that links a node leaves the head where it is
links_head : (p : ℕ) (spare : Node) (s s' : Shared) (pl : Place) (v : Turn) (i : Option Item) (w : Work) (pl' : Place) → Kind p spare s s' pl v i w pl'
    → (n : ℕ) → v ≡ Turn.links n → s'.queue_head ≡ s.queue_head
links_head p spare s s' pl v i w pl' (Kind.idle h k) n e = h
links_head p spare s s' pl v i w pl' (Kind.enlists h k) n e = h
links_head p spare s s' pl v i w pl' (Kind.seals h) n e = ap (λ (z : Shared). z.queue_head) h
links_head p spare s s' pl v i w pl' (Kind.links h) n e = h
links_head p spare s s' pl v i w pl' (Kind.pops h k) n e = let z : ◌≡◌ {A = ℕ} 0 1 = cc in absurd (omega arith)
links_head p spare s s' pl v i w pl' (Kind.unlinks h r k) n e = h
links_head p spare s s' pl v i w pl' (Kind.retires h r k) n e = h
links_head p spare s s' pl v i w pl' (Kind.moves h r k) n e = h
links_head p spare s s' pl v i w pl' (Kind.pushes h k) n e = h
links_head p spare s s' pl v i w pl' (Kind.accepts h k) n e = ap (λ (z : Shared). z.queue_head) h

-- neither head nor tail is ahead of the last position
low_last : (M : ℕ) (s : Shared) (next : Tab ℕ) (u : Tab NodeUse) (pos : Tab ℕ) (last : ℕ) → Lined M (head_of s) (tail_of s) next u pos last → head_of s < M → low pos s ≤ last
unfolding low
low_last M s next u pos last l hh = let k = l.pos_le (head_of s) hh l.head in omega arith

-- work writes neither head nor tail
low_worked : (p : ℕ) (m : Machine) (s : Shared) (pos : Tab ℕ) (w : Work) → low pos (works p w (with_shared s m)).shared ≡ low pos s
unfolding works write low
low_worked p m s pos Work.Nothing = refl
low_worked p m s pos (Work.Put i) = refl
low_worked p m s pos (Work.PutThenFree i n) = refl
low_worked p m s pos (Work.Seal n e) = refl

module _ (N M p : ℕ) (m : Machine) (g : Ghost) (inv : Inv N M m g) (hp : p < N) (v : Turn) (s : Shared) (t : Turned M g m.shared v s)
    (stays : (n : ℕ) → v ≡ Turn.links n → s.queue_head ≡ m.shared.queue_head) where
  -- a node that head and tail have left, after the access and the work
  past_goes : (b : ℕ) (w : Work) → G m ≤ b → (x : ℕ) → x < M → node_worked w m (node_turned v g.node_use) x ≡ NodeUse.placed
      → pos_turned v g.last g.pos x < low (pos_turned v g.last g.pos) (works p w (with_shared s m)).shared
      → past_after (G m) (low g.pos m.shared) (low (pos_turned v g.last g.pos) s) g.pos g.past x ≤ b
  past_goes b w le x hx h after =
      let lt : pos_turned v g.last g.pos x < low (pos_turned v g.last g.pos) s = rw (low_worked p m s (pos_turned v g.last g.pos) w) at after in
      placed_turned v g.node_use g.pos g.last x (placed_worked w m (node_turned v g.node_use) x h)
      (λ old. past_le_lem (G m) b (low g.pos m.shared) (low (pos_turned v g.last g.pos) s) x g.pos g.past le
      (λ k. let z = inv.epochs.past_le x hx old k in omega arith) (rw (t.pos x old) at lt))
      (λ e new. let z = low_last M s s.node_next (node_turned v g.node_use) (pos_turned v g.last g.pos) (last_turned v g.last) t.line
      (rw (stays x e) (head_in N M p m g inv hp)) in absurd (omega arith))

-- ---- a step

module _ (N M p : ℕ) (m : Machine) (g : Ghost) (inv : Inv N M m g) (st : Steps N M p m) where
  -- the seals of nodes in use
  seal-after : (x : ℕ) → x < M → (stepped_ghost M p m g).node_use x ≢ NodeUse.spare → num ((stepped M p m).bag x).epoch ≤ G (stepped M p m)
  unfolding stepped_ghost goes_ghost moved G
  seal-after x hx ne =
      let up : G m ≤ G (stepped M p m) = mono N M p m g inv st in
      unfold stepped goes followed in (seal_worked M p m g _ _ (step_turned N M p m g inv st) (G (stepped M p m)) (after_of M p m).work
      (kind_seal p (λ e. num e ≤ G (stepped M p m)) _ _ _ _ _ _ _ _ (kind_of N M p m g inv st) up) (λ y hy k. let z = inv.epochs.seal_le y hy k in omega arith) x hx ne)

  -- the nodes that head and tail have left
  past_after_lem : (x : ℕ) → x < M → (stepped_ghost M p m g).node_use x ≡ NodeUse.placed → (stepped_ghost M p m g).pos x < low (stepped_ghost M p m g).pos (stepped M p m).shared
      → (stepped_ghost M p m g).past x ≤ G (stepped M p m)
  unfolding stepped stepped_ghost goes goes_ghost followed moved
  past_after_lem x hx h lt = past_goes N M p m g inv st.here _ _ (step_turned N M p m g inv st) (links_head p _ _ _ _ _ _ _ _ (kind_of N M p m g inv st))
      (G (stepped M p m)) (after_of M p m).work (mono N M p m g inv st) x hx h lt

  -- the pins and the words, as `Epochs` speaks of them
  pub gpin_step : (q : ℕ) → (stepped_ghost M p m g).gpin q ≡ gpin_after (G m) m.shared.word (left_of M p m).word g.gpin q
  unfolding stepped_ghost goes_ghost moved
  gpin_step q = refl

  -- the words are those that the access left
  pub word-step : (q : ℕ) → (stepped M p m).shared.word q ≡ (left_of M p m).word q
  unfolding stepped
  word-step q = ap (λ (f : Tab ℕ). f q) (word-goes p m (left_of M p m) (after_of M p m))

  -- the group after a step
  pub epochs_step : Epochs N M (stepped M p m) (stepped_ghost M p m g)
  unfolding G
  epochs_step = record {
    own_le = λ q hq pq. rw (gpin_step q, word-step q) (pins_after N M p m g inv st q hq pq).0;
    pin_le = λ q hq pq. rw (gpin_step q) (pins_after N M p m g inv st q hq pq).1.0;
    near = λ q hq pq. rw (gpin_step q) (pins_after N M p m g inv st q hq pq).1.1;
    walk_le = λ q hq. (carried-after N M p m g inv st q hq).walks;
    pop_le = λ q hq. (carried-after N M p m g inv st q hq).pops;
    store_le = λ q hq. (carried-after N M p m g inv st q hq).stores;
    seal_le = seal-after;
    gone_le = gone-after N M p m g inv st;
    past_le = past_after_lem;
    tries = tries_after N M p m g inv st;
    walks = walks_step N M p m g inv st;
  }

-- ---- a call: its new place carries no epoch

-- a place without epochs, as a fact about what follows
unfoldable Bare : After → Type 0
Bare a = (walk_epoch a.participant.place ≡ none) × ((pop_epoch a.participant.place ≡ none) × (store_epoch a.participant.place ≡ none))

-- by the functions of specs/Flow
on_bare : (pl : Place) (o : Participant) → walk_epoch pl ≡ none → pop_epoch pl ≡ none → store_epoch pl ≡ none → Bare (on pl o)
unfolding Bare on
on_bare pl o a b c = (a, (b, c))

-- an operation that is done
done-bare : (v : ℕ) (o : Participant) → Bare (done v o)
unfolding Bare done walk_epoch pop_epoch store_epoch
done-bare v o = (refl, (refl, refl))

-- a token put into the bag
token_bare : (token : ℕ) (o : Participant) → Bare (placed (Deferring.Token token) o)
unfolding Bare placed also done walk_epoch pop_epoch store_epoch
token_bare token o = (refl, (refl, refl))

-- one or the other
pick-bare : (b : Bool) (x y : After) → Bare x → Bare y → Bare (branch b x y)
pick-bare b x y h k = branch_ind Bare b (λ _. h) (λ _. k)

ruleset bares = (on_bare, done-bare, token_bare, pick-bare)

-- each call
begins-bare : (c : Call) (o : Participant) → Bare (begins c o)
unfolding begins finalize defer walk_epoch pop_epoch store_epoch
begins-bare Call.Acquire o = search bares
begins-bare Call.Release o = search bares
begins-bare Call.Pin o = search bares
begins-bare Call.Unpin o = search bares
begins-bare Call.Repin o = search bares
begins-bare (Call.Defer token) o = search bares
begins-bare Call.Flush o = search bares

module _ (N M p : ℕ) (c : Call) (m : Machine) (g : Ghost) (inv : Inv N M m g) (ca : Calls N M p c m) where
  -- what follows the call
  abbrev a : After
  a = opens N c (m.own p)

  -- the call's new place
  opens-bare : Bare a
  unfolding opens
  opens-bare = begins-bare c _

  -- words, pins, the global epoch and the places of a call
  pub gpin_call : (q : ℕ) → (called_ghost N p c m g).gpin q ≡ g.gpin q
  unfolding called_ghost moved
  gpin_call q = gpin_same (G m) m.shared.word m.shared.word g.gpin q refl

  -- no word is stored
  pub word-call : (q : ℕ) → (called N p c m).shared.word q ≡ m.shared.word q
  unfolding called goes
  word-call q = ap (λ (f : Tab ℕ). f q) (word-goes p m m.shared a)

  -- nor is the global epoch
  pub epoch-call : G (called N p c m) ≡ G m
  unfolding called goes G
  epoch-call = ap num (epoch-goes p m m.shared a)

  -- what is asked of a carried epoch
  carried-call : (P : ℕ → Type 0) (f : Place → Option ℕ) → f a.participant.place ≡ none → (q : ℕ) → Of P (f (m.own q).place) → Of P (f ((called N p c m).own q).place)
  unfolding called goes
  carried-call P f e q h = rw (own_goes p m m.shared a q)
      (put_ind (λ (o : Participant). Of P (f o.place)) m.own p q a.participant (λ _. of_none P (f a.participant.place) e) (λ _. h))

  -- the seals of nodes in use
  seal-called : (x : ℕ) → x < M → (called_ghost N p c m g).node_use x ≢ NodeUse.spare → num ((called N p c m).bag x).epoch ≤ G m
  unfolding called_ghost moved called followed G
  seal-called x hx ne = seal_worked M p m g Turn.quiet m.shared (still N M p c m g inv ca) (num m.shared.global_epoch) a.work
      (kind_seal p (λ e. num e ≤ num m.shared.global_epoch) _ _ _ _ _ _ _ _ (call_of N M p c m g inv ca) (le_refl (num m.shared.global_epoch))) (λ y hy k. inv.epochs.seal_le y hy k) x hx ne

  -- the nodes that head and tail have left
  past_called : (x : ℕ) → x < M → (called_ghost N p c m g).node_use x ≡ NodeUse.placed → (called_ghost N p c m g).pos x < low (called_ghost N p c m g).pos (called N p c m).shared
      → (called_ghost N p c m g).past x ≤ G m
  unfolding called_ghost moved called followed
  past_called x hx h lt = past_goes N M p m g inv ca.here Turn.quiet m.shared (still N M p c m g inv ca) (λ _ _. refl) (G m) a.work (le_refl (G m)) x hx h lt

  -- the slots that are out
  gone-called : (q : ℕ) → q < N → (called_ghost N p c m g).slot_use q ≡ Use.out → (called_ghost N p c m g).gone q ≤ G m
  unfolding called_ghost moved use_turned gone_turned opens
  gone-called q hq e = inv.epochs.gone_le q hq (sym (ap (λ (u : Tab Use). u q) (light_uses m a g.slot_use (begins_light c _))) ∙ e)

  -- the group after a call
  pub epochs_call : Epochs N M (called N p c m) (called_ghost N p c m g)
  unfolding Bare
  epochs_call =
      let before : (q : ℕ) → Pinned (called N p c m) q → Pinned m q = λ q pq. ap is_pinned (sym (word-call q)) ∙ pq in
      record {
        own_le = λ q hq pq. rw (word-call q, gpin_call q) (inv.epochs.own_le q hq (before q pq));
        pin_le = λ q hq pq. rw (epoch-call, gpin_call q) (inv.epochs.pin_le q hq (before q pq));
        near = λ q hq pq. rw (epoch-call, gpin_call q) (inv.epochs.near q hq (before q pq));
        walk_le = λ q hq. rw epoch-call (carried-call (λ e. num e ≤ G m) walk_epoch opens-bare.0 q (inv.epochs.walk_le q hq));
        pop_le = λ q hq. rw epoch-call (carried-call (λ e. num e ≤ G m) pop_epoch opens-bare.1.0 q (inv.epochs.pop_le q hq));
        store_le = λ q hq. rw epoch-call (carried-call (λ e. num e ≤ G m) store_epoch opens-bare.1.1 q (inv.epochs.store_le q hq));
        seal_le = λ x hx ne. rw epoch-call (seal-called x hx ne);
        gone_le = λ q hq e. rw epoch-call (gone-called q hq e);
        past_le = λ x hx h lt. rw epoch-call (past_called x hx h lt);
        tries = λ q hq. rw (gpin_call q) (carried-call (λ e. g.gpin q ≤ num e) walk_epoch opens-bare.0 q (inv.epochs.tries q hq));
        walks = walks_call N M p c m g inv ca;
      }

-- ---- registering

module _ (N M p : ℕ) (m : Machine) (g : Ghost) (inv : Inv N M m g) (re : I.Registers N p m) where
  -- who is pinned afterwards is another one, and was pinned
  pinned-before : (q : ℕ) → Pinned (registered p m) q → (p ≢ q) × Pinned m q
  unfolding registered write
  pinned-before q pq =
      let ne : p ≢ q = λ e. true≢false (sym pq ∙ rw (← e, put_same m.shared.word p starting) is_pinned-starting) in
      (ne, rw (put_other m.shared.word p q starting ne) at pq)

  -- no other word is stored
  word-register : (q : ℕ) → p ≢ q → (registered p m).shared.word q ≡ m.shared.word q
  unfolding registered write
  word-register q ne = put_other m.shared.word p q starting ne

  -- what is asked of a carried epoch: the new place has none
  carried-register : (P : ℕ → Type 0) (f : Place → Option ℕ) → f new_participant.place ≡ none → (q : ℕ) → Of P (f (m.own q).place) → Of P (f ((registered p m).own q).place)
  unfolding registered
  carried-register P f e q h =
      put_ind (λ (o : Participant). Of P (f o.place)) m.own p q new_participant (λ _. of_none P (f new_participant.place) e) (λ _. h)

  -- the new slot is not out
  not_out_lem : put g.slot_use p Use.registering p ≢ Use.out
  not_out_lem e = let k = sym (put_same g.slot_use p Use.registering) ∙ e in let z : ◌≡◌ {A = ℕ} 0 1 = cc in omega arith

  -- the group after a registering
  pub epochs_register : Epochs N M (registered p m) (registered_ghost p g)
  unfolding registered_ghost
  epochs_register = record {
    own_le = λ q hq pq. let k = pinned-before q pq in rw (word-register q k.0) (inv.epochs.own_le q hq k.1);
    pin_le = λ q hq pq. unfold registered write G in (inv.epochs.pin_le q hq (pinned-before q pq).1);
    near = λ q hq pq. unfold registered write G in (inv.epochs.near q hq (pinned-before q pq).1);
    walk_le = λ q hq. carried-register (λ e. num e ≤ G (registered p m)) walk_epoch (unfold walk_epoch new_participant in refl) q (unfold registered write G in (inv.epochs.walk_le q hq));
    pop_le = λ q hq. carried-register (λ e. num e ≤ G (registered p m)) pop_epoch (unfold pop_epoch new_participant in refl) q (unfold registered write G in (inv.epochs.pop_le q hq));
    store_le = λ q hq. carried-register (λ e. num e ≤ G (registered p m)) store_epoch (unfold store_epoch new_participant in refl) q (unfold registered write G in (inv.epochs.store_le q hq));
    seal_le = λ x hx ne. unfold registered write G in (inv.epochs.seal_le x hx ne);
    gone_le = λ q hq e. same? p q
        (λ i. absurd (not_out_lem (ap (put g.slot_use p Use.registering) i ∙ e)))
        (λ ne. unfold registered write G in (inv.epochs.gone_le q hq (sym (put_other g.slot_use p q Use.registering ne) ∙ e)));
    past_le = λ x hx h lt. unfold registered write G low in (inv.epochs.past_le x hx h (unfold registered write low in lt));
    tries = λ q hq. carried-register (λ e. g.gpin q ≤ num e) walk_epoch (unfold walk_epoch new_participant in refl) q (inv.epochs.tries q hq);
    walks = walks_register N M p m g inv re;
  }
