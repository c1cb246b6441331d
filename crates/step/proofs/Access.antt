-- The shared words of tables in range: what an access reads there, and where its word stands in the lists. Assumes nothing.
use mathlib.Core.Path.{◌≡◌, refl}
use mathlib.Core.Bool.{Bool, true, false, ◌&&◌}
use Prim.Native.Nat.{ℕ, ◌/◌, ◌%◌, ◌≤◌}
use native.Mathlib.Omega.{arith}
use lib.Dec.{eqb, leb}
use borrow.Author.Tests.{leb-true}
use Rattle.definition.specs.Base.{all, branch}
use Rattle.definition.specs.Tables.{Shared, read}
use Rattle.definition.specs.Layout.{Lent}
use Rattle.definition.specs.Ranges.{shared_in, entry_pointer_in, head_pointer_in, node_pointer_in, end_pointer_in}
use Rattle.definition.specs.Rule.{Rule, asks, follows, sees, missed}
use Rattle.definition.specs.declared.Word.{Word}
use Rattle.definition.specs.declared.Ask.{Ask}
use Rattle.definition.specs.declared.Seen.{Seen}
use Rattle.definition.proofs.Base.{both, all_at}
use Rattle.definition.proofs.Lists.{Sized}
use Rattle.definition.proofs.Within.{WordIn, AskIn}
use Rattle.definition.proofs.Kept.{ask_word, ValueIn}
use Rattle.words.specs.Words.{named, word_in, seen_by}

-- what stands in a shared word within the tables
end_in : (N M w : ℕ) → end_pointer_in N M w ≡ true → (1 ≤ w / 2) × (w / 2 ≤ M)
unfolding end_pointer_in node_pointer_in
end_in N M w h =
    let a = both (eqb (w % 2) 0 && leb (w / 2) M) (leb 1 (w / 2)) h in
    let b = both (eqb (w % 2) 0) (leb (w / 2) M) a.0 in
    (leb-true 1 (w / 2) a.1, leb-true (w / 2) M b.1)

record SharedFacts (N M : ℕ) (s : Shared) : Type 0 where
  pub list : head_pointer_in N M s.list_head ≡ true
  pub head : end_pointer_in N M s.queue_head ≡ true
  pub tail : end_pointer_in N M s.queue_tail ≡ true
  pub entries : all N (λ i. entry_pointer_in N M (s.entry_next i)) ≡ true
  pub nodes : all M (λ n. node_pointer_in N M (s.node_next n)) ≡ true

shared_facts : (N M : ℕ) (s : Shared) → shared_in N M s ≡ true → SharedFacts N M s
unfolding shared_in
shared_facts N M s h =
    let a = both _ _ h in
    let b = both _ _ a.0 in
    let c = both _ _ b.0 in
    let d = both _ _ c.0 in
    record { list = d.0; head = d.1; tail = c.1; entries = b.1; nodes = a.1 }

head_in : (N M w : ℕ) → head_pointer_in N M w ≡ true → w / 2 ≤ N
unfolding head_pointer_in
head_in N M w h = leb-true (w / 2) N (both (eqb (w % 2) 0) (leb (w / 2) N) h).1

entry_in : (N M w : ℕ) → entry_pointer_in N M w ≡ true → w / 2 ≤ N
unfolding entry_pointer_in
entry_in N M w h = leb-true (w / 2) N h

next_in : (N M w : ℕ) → node_pointer_in N M w ≡ true → w / 2 ≤ M
unfolding node_pointer_in
next_in N M w h = leb-true (w / 2) M (both (eqb (w % 2) 0) (leb (w / 2) M) h).1

pub read_in : (N M : ℕ) (s : Shared) → shared_in N M s ≡ true → (w : Word) → WordIn N M w → ValueIn N M w (read w s)
unfolding WordIn ValueIn read
read_in N M s h Word.GlobalEpoch i = tt
read_in N M s h Word.ListHead i = head_in N M s.list_head (shared_facts N M s h).list
read_in N M s h (Word.EntryNext k) i =
    entry_in N M (s.entry_next k.0) (all_at N (λ j. entry_pointer_in N M (s.entry_next j)) k.0 (shared_facts N M s h).entries i)
read_in N M s h (Word.ParticipantWord k) i = tt
read_in N M s h Word.QueueHead i = end_in N M s.queue_head (shared_facts N M s h).head
read_in N M s h Word.QueueTail i = end_in N M s.queue_tail (shared_facts N M s h).tail
read_in N M s h (Word.NodeNext k) i =
    next_in N M (s.node_next k.0) (all_at M (λ n. node_pointer_in N M (s.node_next n)) k.0 (shared_facts N M s h).nodes i)

-- ---- the access

-- a word within the tables is in the lists
word_in_lem : (N M : ℕ) (l : Lent) → Sized N M l → (w : Word) → WordIn N M w → word_in w l
unfolding WordIn
word_in_lem N M l s Word.GlobalEpoch i = rw s.globals (omega arith)
word_in_lem N M l s Word.ListHead i = rw s.globals (omega arith)
word_in_lem N M l s (Word.EntryNext k) i = rw s.participants (omega arith)
word_in_lem N M l s (Word.ParticipantWord k) i = rw s.participants (omega arith)
word_in_lem N M l s Word.QueueHead i = rw s.globals (omega arith)
word_in_lem N M l s Word.QueueTail i = rw s.globals (omega arith)
word_in_lem N M l s (Word.NodeNext k) i = rw s.nodes (omega arith)

pub ask_in : (N M : ℕ) (l : Lent) → Sized N M l → (ask : Ask) → AskIn N M ask → word_in (named ask) l
unfolding AskIn
ask_in N M l s (Ask.Load w) i = word_in_lem N M l s w i
ask_in N M l s (Ask.Store w v) i = word_in_lem N M l s w i
ask_in N M l s (Ask.Exchange w e v) i = word_in_lem N M l s w i
ask_in N M l s (Ask.ExchangeWeak w e v) i = word_in_lem N M l s w i
ask_in N M l s (Ask.FetchOr w) i = word_in_lem N M l s w i

pub ask-word : (N M : ℕ) (ask : Ask) → AskIn N M ask → WordIn N M (ask_word ask)
unfolding AskIn ask_word
ask-word N M (Ask.Load w) i = i
ask-word N M (Ask.Store w v) i = i
ask-word N M (Ask.Exchange w e v) i = i
ask-word N M (Ask.ExchangeWeak w e v) i = i
ask-word N M (Ask.FetchOr w) i = i

-- an access that fails for no reason sees the value too
value-seen : (b : Bool) (seen : Seen) → (branch b (missed seen) seen).value ≡ seen.value
unfolding branch missed
value-seen true seen = refl
value-seen false seen = refl

-- what follows is what would follow if a store too saw its word
pub follows-seen : (marked : Bool) (r : Rule) (s : Shared)
    → follows r (seen_by marked (asks r) s) ≡ follows r (record { value = read (ask_word (asks r)) s; won = (seen_by marked (asks r) s).won })
unfolding follows asks sees ask_word
follows-seen marked (Rule.load w f) s = simp value-seen
follows-seen marked (Rule.store w v a) s = refl
follows-seen marked (Rule.exchange w e v won lost) s = simp value-seen
follows-seen marked (Rule.exchange_weak w e v won lost) s = simp value-seen
follows-seen marked (Rule.fetch_or w a) s = refl
