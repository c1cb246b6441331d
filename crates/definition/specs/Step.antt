-- A step and a call, once every check is passed: one access and the private work after it, or the private work of the call that begins an
-- operation. What the work does to the tables. Assumes nothing.
use Rattle.std.specs.Prelude.{Bool, false, List, [], ℕ, ◌+◌, ◌-◌, length}
use Rattle.definition.specs.Base.{branch, put, least}
use Rattle.definition.specs.Links.{null}
use Rattle.definition.specs.Bags.{item_word, items, moved, tokens, free_slots, free_nodes}
use Rattle.definition.specs.Tables.{Tables, write, with_shared, with_own, with_held, with_bag, with_free, with_aside}
use Rattle.definition.specs.Codec.{record_of, participant_of}
use Rattle.definition.specs.Rule.{Rule, asks, follows, sees, leaves, made, fails, missed, failed}
use Rattle.definition.specs.Internal.{rule}
use Rattle.definition.specs.Types.{Item, Word, Access, Work, End, After, Answer, slot, node}

-- the tables afterwards, the answer, and the tokens freed, in bag order
pub record Out : Type 0 where
  pub tables : Tables
  pub answer : Answer
  pub freed : List ℕ

-- internal.rs, `Bag::try_push`: the item goes to the end of participant p's bag. Putting it answers with the places left after it, `places_left`
-- (document 02, No. 9): a defer's caller is told by `placed` of Flow, and nobody else asks
unfoldable pub put_item : ℕ → Item → Tables → Tables
put_item p item t = with_held p (put (t.held p) (t.own p).held (item_word item)) t

-- internal.rs, `push_bag`, and queue.rs, `Owned::new(Node { .. })`: the bag of p, sealed, is now in node n, whose next is null
unfoldable pub seal_into : ℕ → ℕ → ℕ → Tables → Tables
seal_into p n e t =
    with_free t.slot_free (put t.node_free n false)
    (with_bag n (record { epoch = e; len = (t.own p).held; deferreds = moved (t.own p).held (t.held p) (t.bag n).deferreds })
    (with_shared (write (Word.NodeNext (node n)) null t.shared) t))

-- internal.rs, `Drop` of `Bag`: every item of the bag in node n is freed, and the bag is empty. A popped bag stays in its node till then
unfoldable pub in_bag : ℕ → Tables → List Item
in_bag n t = items (t.bag n).len (t.bag n).deferreds

unfoldable pub free_bag : ℕ → Tables → Tables
free_bag n t =
    with_free (free_slots (in_bag n t) t.slot_free) (free_nodes (in_bag n t) t.node_free)
    (with_bag n (record { epoch = (t.bag n).epoch; len = 0; deferreds = (t.bag n).deferreds }) t)

-- the work of participant p
unfoldable pub settle : ℕ → Work → Tables → Tables
settle p Work.Nothing t = t
settle p (Work.Put item) t = put_item p item t
settle p (Work.PutThenFree item n) t = free_bag n.0 (put_item p item t)
settle p (Work.Seal n e) t = seal_into p n.0 e.0 t

-- the tokens that it frees
unfoldable pub freed_by : Work → Tables → List ℕ
freed_by Work.Nothing t = []
freed_by (Work.Put item) t = []
freed_by (Work.PutThenFree item n) t = tokens (in_bag n.0 t)
freed_by (Work.Seal n e) t = []

-- done with a value, or more, with the number of tokens freed
unfoldable pub answer_of : End → ℕ → Answer
answer_of End.GoesOn k = Answer.More k
answer_of (End.EndsWith v) k = Answer.Done v k

-- what follows is carried out: the work, the record, and the set-aside total, which changes by what the share does
unfoldable pub follow : ℕ → After → Tables → Out
follow p a t = record {
  tables = with_aside (t.aside - (t.own p).share + a.participant.share) (with_own p (record_of a.participant) (settle p a.work t));
  answer = answer_of a.end (length (freed_by a.work t));
  freed = freed_by a.work t;
}

-- the rule of the place at which p stands, in tables for M nodes: the smallest free node is the one taken
unfoldable pub rule_at : ℕ → ℕ → Tables → Rule
rule_at M p t =
    let o = participant_of (t.own p) in
    rule (slot p) (node (least M t.node_free)) (λ n. (t.bag n.0).epoch) o o.place

-- the step of p: its access, then what follows
unfoldable pub take_step : ℕ → ℕ → Tables → Out
take_step M p t =
    let r = rule_at M p t in
    follow p (follows r (sees (asks r) t.shared)) (with_shared (leaves (asks r) t.shared) t)

-- document 02, No. 2: the step of p, marked or not. Where its access fails for no reason, what follows a lost exchange follows, on the shared words
-- as they were
unfoldable pub take_marked : (marked : Bool) → ℕ → ℕ → Tables → Out
take_marked marked M p t =
    let r = rule_at M p t in
    branch (fails marked (asks r)) (follow p (follows r (missed (sees (asks r) t.shared))) t) (take_step M p t)

-- the access that it makes
unfoldable pub access_at : (marked : Bool) → ℕ → ℕ → Tables → Access
access_at marked M p t =
    let ask = asks (rule_at M p t) in
    let a = made ask t.shared in
    branch (fails marked ask) (failed a) a
