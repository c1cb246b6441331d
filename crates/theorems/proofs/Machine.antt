-- The machine that the long proofs speak of: tables with participants and bags in place of their words. `view` reads it off the tables, and
-- what follows an access or a call does to the tables (`follow` of specs/Step) it does to the machine (`followed`), so a clause kept by every
-- move of the machine is kept by every step and call. Assumes nothing.
use mathlib.Core.Path.{◌≡◌, refl, ap, ◌∙◌}
use mathlib.Core.Bool.{Bool, false}
use mathlib.Core.List.{List, [], ◌∷◌, ◌++◌}
use Prim.Native.Nat.{ℕ, zero, suc, ◌+◌, ◌-◌, ◌*◌, ◌/◌, ◌%◌, ◌<◌}
use native.Mathlib.Omega.{arith}
use native.Mathlib.Numerals.{add-one}
use lib.Dec.{ltb}
use borrow.Author.Tests.{lt-ltb}
use Rattle.definition.specs.Base.{branch, Tab, put, listed}
use Rattle.definition.specs.Links.{null}
use Rattle.definition.specs.Bags.{SealedBag, item_word, item_of, items, moved, free_slots, free_nodes}
use Rattle.definition.specs.Tables.{Shared, Tables, write}
use Rattle.definition.specs.Tables as T
use Rattle.definition.specs.Codec.{record_of, participant_of}
use Rattle.definition.specs.Step.{put_item, seal_into, in_bag, free_bag, settle, follow}
use Rattle.definition.specs.Public.{the}
use Rattle.definition.proofs.Base.{same?, put_ind, put_same, put_other, branch-true}
use Rattle.definition.proofs.Codec.{participant_back}
use Rattle.theorems.proofs.Types.{Item, Participant, Word, Work, After}

-- a sealed bag: its seal, and what it holds
pub record Sealed : Type 0 where
  pub epoch : ℕ
  pub holds : List Item

pub record Machine : Type 0 where
  pub shared : Shared
  pub own : Tab Participant
  pub held : Tab (List Item)
  pub bag : Tab Sealed
  pub slot_free : Tab Bool
  pub node_free : Tab Bool
  pub aside : ℕ

abbrev pub view : Tables → Machine
view t = record {
  shared = t.shared;
  own = λ q. the q t;
  held = λ q. items (t.own q).held (t.held q);
  bag = λ n. record { epoch = (t.bag n).epoch; holds = items (t.bag n).len (t.bag n).deferreds };
  slot_free = t.slot_free;
  node_free = t.node_free;
  aside = t.aside;
}

-- an item is read back from its word
pub item_back : (i : Item) → item_of (item_word i) ≡ i
unfolding item_of item_word branch
item_back (Item.Token v) = let h : (4 * v + 1) % 4 ≡ 1 = omega arith in let k : (4 * v + 1) / 4 ≡ v = omega arith in rw (h, k)
item_back (Item.Node n) = let h : (4 * n.0 + 2) % 4 ≡ 2 = omega arith in let k : (4 * n.0 + 2) / 4 ≡ n.0 = omega arith in rw (h, k)
item_back (Item.Slot s) = let h : (4 * s.0 + 3) % 4 ≡ 3 = omega arith in let k : (4 * s.0 + 3) / 4 ≡ s.0 = omega arith in rw (h, k)

-- the first n entries of two tables that agree on them
pub listed_ext : {A : Type 0} (n : ℕ) (f g : Tab A) → ((i : ℕ) → i < n → f i ≡ g i) → listed n f ≡ listed n g
unfolding listed
listed_ext zero f g h = refl
listed_ext (suc n) f g h = rw (listed_ext n f g (λ i l. h i (omega arith)), h n (omega arith))

-- a bag with an item put at its end; a bag moved
pub items-put : (k : ℕ) (d : Tab ℕ) (i : Item) → items (k + 1) (put d k (item_word i)) ≡ items k d ++ i ∷ []
unfolding items listed
items-put k d i =
    rw (
      add-one k,
      put_same d k (item_word i),
      item_back i,
      listed_ext k (λ j. item_of (put d k (item_word i) j)) (λ j. item_of (d j)) (λ j l. ap item_of (put_other d k j (item_word i) (λ e. omega arith))),
    )

pub items-moved : (k : ℕ) (from to : Tab ℕ) → items k (moved k from to) ≡ items k from
unfolding items moved
items-moved k from to = listed_ext k (λ j. item_of (branch (ltb j k) (from j) (to j))) (λ j. item_of (from j)) (λ j l. ap item_of (branch-true (from j) (to j) (lt-ltb j k l)))

-- the machine with some of its parts changed
abbrev pub with_held : ℕ → List Item → Machine → Machine
with_held p l m = record { shared = m.shared; own = m.own; held = put m.held p l; bag = m.bag; slot_free = m.slot_free; node_free = m.node_free; aside = m.aside }

abbrev pub with_bag : ℕ → Sealed → Machine → Machine
with_bag n b m = record { shared = m.shared; own = m.own; held = m.held; bag = put m.bag n b; slot_free = m.slot_free; node_free = m.node_free; aside = m.aside }

abbrev pub with_free : Tab Bool → Tab Bool → Machine → Machine
with_free s n m = record { shared = m.shared; own = m.own; held = m.held; bag = m.bag; slot_free = s; node_free = n; aside = m.aside }

abbrev pub with_shared : Shared → Machine → Machine
with_shared s m = record { shared = s; own = m.own; held = m.held; bag = m.bag; slot_free = m.slot_free; node_free = m.node_free; aside = m.aside }

abbrev pub with_own : ℕ → Participant → Machine → Machine
with_own p o m = record { shared = m.shared; own = put m.own p o; held = m.held; bag = m.bag; slot_free = m.slot_free; node_free = m.node_free; aside = m.aside }

abbrev pub with_aside : ℕ → Machine → Machine
with_aside a m = record { shared = m.shared; own = m.own; held = m.held; bag = m.bag; slot_free = m.slot_free; node_free = m.node_free; aside = a }

-- the work of participant p: an item at the end of its bag; the bag of node n freed; its bag sealed into node n
abbrev pub puts : ℕ → Item → Machine → Machine
puts p i m = with_held p (m.held p ++ i ∷ []) m

abbrev pub frees : ℕ → Machine → Machine
frees n m =
    with_free (free_slots (m.bag n).holds m.slot_free) (free_nodes (m.bag n).holds m.node_free)
    (with_bag n (record { epoch = (m.bag n).epoch; holds = [] }) m)

abbrev pub seals : ℕ → ℕ → ℕ → Machine → Machine
seals p n e m =
    with_free m.slot_free (put m.node_free n false)
    (with_held p [] (with_bag n (record { epoch = e; holds = m.held p }) (with_shared (write (Word.NodeNext (record { 0 = n })) null m.shared) m)))

unfoldable pub works : ℕ → Work → Machine → Machine
works p Work.Nothing m = m
works p (Work.Put i) m = puts p i m
works p (Work.PutThenFree i n) m = frees n.0 (puts p i m)
works p (Work.Seal n e) m = seals p n.0 e.0 m

-- what follows, on the machine
unfoldable pub followed : ℕ → After → Machine → Machine
followed p a m = with_aside (m.aside - (m.own p).share + a.participant.share) (with_own p a.participant (works p a.work m))

-- the length of a bag before and after, by the work
unfoldable pub Fits : (before after : ℕ) → Work → Type 0
Fits k h Work.Nothing = h ≡ k
Fits k h (Work.Put i) = h ≡ k + 1
Fits k h (Work.PutThenFree i n) = h ≡ k + 1
Fits k h (Work.Seal n e) = h ≡ 0

-- a changed table seen through a function is the table seen through it, changed
pub map-put : {A B : Type 0} (f : A → B) (t : Tab A) (i : ℕ) (v : A) (j : ℕ) → f (put t i v j) ≡ put (λ k. f (t k)) i (f v) j
map-put f t i v j = same? i j
    (λ e. rw (← e, put_same t i v, put_same (λ k. f (t k)) i (f v)))
    (λ ne. rw (put_other t i j v ne, put_other (λ k. f (t k)) i j (f v) ne))

-- two tables changed at one index, seen together
pub zip_put : {A B C : Type 0} (f : A → B → C) (s : Tab A) (t : Tab B) (i : ℕ) (v : A) (w : B) (j : ℕ)
    → f (put s i v j) (put t i w j) ≡ put (λ k. f (s k) (t k)) i (f v w) j
zip_put f s t i v w j = same? i j
    (λ e. rw (← e, put_same s i v, put_same t i w, put_same (λ k. f (s k) (t k)) i (f v w)))
    (λ ne. rw (put_other s i j v ne, put_other t i j w ne, put_other (λ k. f (s k) (t k)) i j (f v w) ne))

own_view : (p : ℕ) (o : Participant) (t : Tables) (q : ℕ) → participant_of (put t.own p (record_of o) q) ≡ put (λ q. the q t) p o q
own_view p o t q = map-put participant_of t.own p (record_of o) q ∙ ap (λ x. put (λ q. the q t) p x q) (participant_back o)

-- the bag of each participant, where only p's record changed; where an item was put into p's bag; where p's bag was moved away
abbrev bag_of : Tables → ℕ → List Item
bag_of t q = items (t.own q).held (t.held q)

held_same : (p : ℕ) (o : Participant) (t : Tables) → o.held ≡ (t.own p).held → (q : ℕ)
    → items (put t.own p (record_of o) q).held (t.held q) ≡ bag_of t q
unfolding record_of
held_same p o t h q = put_ind (λ r. items r.held (t.held q) ≡ bag_of t q) t.own p q (record_of o)
    (λ e. rw (h, ← e)) (λ _. refl)

held-put : (p : ℕ) (o : Participant) (i : Item) (t : Tables) → o.held ≡ (t.own p).held + 1 → (q : ℕ)
    → items (put t.own p (record_of o) q).held (put t.held p (put (t.held p) (t.own p).held (item_word i)) q)
    ≡ put (bag_of t) p (bag_of t p ++ i ∷ []) q
unfolding record_of
held-put p o i t h q =
    zip_put (λ r d. items r.held d) t.own t.held p (record_of o) (put (t.held p) (t.own p).held (item_word i)) q
    ∙ ap (λ x. put (bag_of t) p x q) (rw h (items-put (t.own p).held (t.held p) i))

held-gone : (p : ℕ) (o : Participant) (t : Tables) → o.held ≡ 0 → (q : ℕ)
    → items (put t.own p (record_of o) q).held (t.held q) ≡ put (bag_of t) p [] q
unfolding record_of items listed
held-gone p o t h q = same? p q
    (λ e. rw (← e, put_same t.own p (record_of o), put_same (bag_of t) p [], h))
    (λ ne. rw (put_other t.own p q (record_of o) ne, put_other (bag_of t) p q [] ne))

-- a record that changed and no bag with it
pub view_own : (p : ℕ) (o : Participant) (t : Tables) → o.held ≡ (t.own p).held → view (T.with_own p (record_of o) t) ≡ with_own p o (view t)
view_own p o t h = λ i. record {
  shared = t.shared;
  own = λ q. own_view p o t q i;
  held = λ q. held_same p o t h q i;
  bag = (view t).bag;
  slot_free = t.slot_free;
  node_free = t.node_free;
  aside = t.aside;
}

-- the bags of the nodes, where one changed
abbrev sealed_of : SealedBag → Sealed
sealed_of b = record { epoch = b.epoch; holds = items b.len b.deferreds }

bag_view : (t : Tables) (n : ℕ) (b : SealedBag) (c : Sealed) → sealed_of b ≡ c → (k : ℕ) → sealed_of (put t.bag n b k) ≡ put (λ j. sealed_of (t.bag j)) n c k
bag_view t n b c h k = map-put sealed_of t.bag n b k ∙ ap (λ x. put (λ j. sealed_of (t.bag j)) n x k) h

emptied : (e : ℕ) (d : Tab ℕ) → sealed_of (record { epoch = e; len = 0; deferreds = d }) ≡ record { epoch = e; holds = [] }
unfolding items listed
emptied e d = refl

-- what follows, seen on the machine, by its work
view_work : (p : ℕ) (o : Participant) (t : Tables) (w : Work) → Fits (t.own p).held o.held w
    → view (T.with_aside (t.aside - (t.own p).share + o.share) (T.with_own p (record_of o) (settle p w t)))
    ≡ with_aside (t.aside - (t.own p).share + o.share) (with_own p o (works p w (view t)))
unfolding settle works Fits put_item seal_into free_bag in_bag
view_work p o t Work.Nothing h = λ i. record {
  shared = t.shared;
  own = λ q. own_view p o t q i;
  held = λ q. held_same p o t h q i;
  bag = λ n. sealed_of (t.bag n);
  slot_free = t.slot_free;
  node_free = t.node_free;
  aside = t.aside - (t.own p).share + o.share;
}
view_work p o t (Work.Put it) h = λ i. record {
  shared = t.shared;
  own = λ q. own_view p o t q i;
  held = λ q. held-put p o it t h q i;
  bag = λ n. sealed_of (t.bag n);
  slot_free = t.slot_free;
  node_free = t.node_free;
  aside = t.aside - (t.own p).share + o.share;
}
view_work p o t (Work.PutThenFree it n) h = λ i. record {
  shared = t.shared;
  own = λ q. own_view p o t q i;
  held = λ q. held-put p o it t h q i;
  bag = λ k. bag_view t n.0 (record { epoch = (t.bag n.0).epoch; len = 0; deferreds = (t.bag n.0).deferreds })
      (record { epoch = (t.bag n.0).epoch; holds = [] }) (emptied (t.bag n.0).epoch (t.bag n.0).deferreds) k i;
  slot_free = free_slots (items (t.bag n.0).len (t.bag n.0).deferreds) t.slot_free;
  node_free = free_nodes (items (t.bag n.0).len (t.bag n.0).deferreds) t.node_free;
  aside = t.aside - (t.own p).share + o.share;
}
view_work p o t (Work.Seal n e) h = λ i. record {
  shared = write (Word.NodeNext (record { 0 = n.0 })) null t.shared;
  own = λ q. own_view p o t q i;
  held = λ q. held-gone p o t h q i;
  bag = λ k. bag_view t n.0 (record { epoch = e.0; len = (t.own p).held; deferreds = moved (t.own p).held (t.held p) (t.bag n.0).deferreds })
      (record { epoch = e.0; holds = bag_of t p }) (λ j. record { epoch = e.0; holds = items-moved (t.own p).held (t.held p) (t.bag n.0).deferreds j }) k i;
  slot_free = t.slot_free;
  node_free = put t.node_free n.0 false;
  aside = t.aside - (t.own p).share + o.share;
}

pub view_follow : (p : ℕ) (a : After) (t : Tables) → Fits (t.own p).held a.participant.held a.work
    → view (follow p a t).tables ≡ followed p a (view t)
unfolding follow followed participant_of
view_follow p a t fits = view_work p a.participant t a.work fits
