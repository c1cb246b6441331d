-- Where a token waits in the tables, and which call retires it: words of the statement. A token waits in a participant's own bag; in a running
-- operation, behind the push that its defer began; in the bag of a node that a running push has taken and not yet linked; in the bag of a node
-- that hangs on the queue's head; in the popped bag of a pop that has won its exchange and not yet ended. Nowhere else: a token in a node that
-- nobody will reach is not one that waits, it is lost. Assumes nothing.
use Rattle.std.specs.Prelude.{List, [], ◌∷◌, ℕ, ◌+◌, eqb}
use Rattle.std.proofs.Math.Option.{Option, none, some}
use Rattle.definition.specs.Base.{branch, Tab, sum}
use Rattle.definition.specs.Links.{index}
use Rattle.definition.specs.Bags.{items, tokens}
use Rattle.definition.specs.Tables.{Tables}
use Rattle.definition.specs.Public.{the}
use Rattle.definition.specs.declared.Deferring.{Deferring}
use Rattle.definition.specs.declared.Then.{Then}
use Rattle.definition.specs.declared.PopAt.{PopAt}
use Rattle.definition.specs.declared.PushAt.{PushAt}
use Rattle.definition.specs.declared.Place.{Place}
use Rattle.definition.specs.declared.Call.{Call}
use Rattle.definition.specs.declared.Answer.{Answer}
use Rattle.theorems.specs.Order.{hanging}

-- how often a token is in a list of tokens
unfoldable pub times : ℕ → List ℕ → ℕ
times x [] = 0
times x (y ∷ l) = branch (eqb x y) 1 0 + times x l

-- a token that waits behind the push that its defer began, because the bag was full
unfoldable pub waits_at : ℕ → Place → ℕ
waits_at x Place.Rest = 0
waits_at x (Place.Register a) = 0
waits_at x (Place.PinEpoch k) = 0
waits_at x (Place.PinWord k e) = 0
waits_at x (Place.Repin a) = 0
waits_at x Place.UnpinWord = 0
waits_at x (Place.AdvanceEpoch k) = 0
waits_at x (Place.Walk t a) = 0
waits_at x (Place.AdvanceWord t curr succ) = 0
waits_at x (Place.AdvanceStore t) = 0
waits_at x (Place.Pop p a) = 0
waits_at x (Place.Push (Then.Defer (Deferring.Token y)) a) = branch (eqb x y) 1 0
waits_at x (Place.Push (Then.Defer (Deferring.Slot t c succ)) a) = 0
waits_at x (Place.Push (Then.Defer (Deferring.Node p head next)) a) = 0
waits_at x (Place.Push Then.Flush a) = 0
waits_at x (Place.Push Then.Finalize a) = 0
waits_at x Place.FinalWord = 0
waits_at x Place.FinalTag = 0

-- the node that a running push has taken and not yet linked (queue.rs, `push`, up to its won exchange)
unfoldable pub taken_node : Place → Option ℕ
taken_node Place.Rest = none
taken_node (Place.Register a) = none
taken_node (Place.PinEpoch k) = none
taken_node (Place.PinWord k e) = none
taken_node (Place.Repin a) = none
taken_node Place.UnpinWord = none
taken_node (Place.AdvanceEpoch k) = none
taken_node (Place.Walk t a) = none
taken_node (Place.AdvanceWord t curr succ) = none
taken_node (Place.AdvanceStore t) = none
taken_node (Place.Pop p a) = none
taken_node (Place.Push f PushAt.Epoch) = none
taken_node (Place.Push f (PushAt.Tail new)) = some new.0
taken_node (Place.Push f (PushAt.Next new onto)) = some new.0
taken_node (Place.Push f (PushAt.Help new onto next)) = some new.0
taken_node (Place.Push f (PushAt.Link new onto)) = some new.0
taken_node (Place.Push f (PushAt.Move new onto)) = none
taken_node Place.FinalWord = none
taken_node Place.FinalTag = none

-- the node whose bag a pop has popped and not yet freed (queue.rs, `pop_if_internal`, from its won exchange to its end)
unfoldable pub popped_node : Place → Option ℕ
popped_node Place.Rest = none
popped_node (Place.Register a) = none
popped_node (Place.PinEpoch k) = none
popped_node (Place.PinWord k e) = none
popped_node (Place.Repin a) = none
popped_node Place.UnpinWord = none
popped_node (Place.AdvanceEpoch k) = none
popped_node (Place.Walk t a) = none
popped_node (Place.AdvanceWord t curr succ) = none
popped_node (Place.AdvanceStore t) = none
popped_node (Place.Pop p PopAt.Head) = none
popped_node (Place.Pop p (PopAt.Next head)) = none
popped_node (Place.Pop p (PopAt.Exchange head next)) = none
popped_node (Place.Pop p (PopAt.Tail head next)) = some next.0
popped_node (Place.Pop p (PopAt.TailMove head next)) = some next.0
popped_node (Place.Push (Then.Defer (Deferring.Token token)) a) = none
popped_node (Place.Push (Then.Defer (Deferring.Slot t c succ)) a) = none
popped_node (Place.Push (Then.Defer (Deferring.Node p head next)) a) = some next.0
popped_node (Place.Push Then.Flush a) = none
popped_node (Place.Push Then.Finalize a) = none
popped_node Place.FinalWord = none
popped_node Place.FinalTag = none

-- how often a token stands in the bag of participant q, and in the bag of node n
unfoldable pub in_own : ℕ → Tables → Tab ℕ
in_own x t q = times x (tokens (items (t.own q).held (t.held q)))

unfoldable pub in_node : ℕ → Tables → Tab ℕ
in_node x t n = times x (tokens (items (t.bag n).len (t.bag n).deferreds))

-- a number for each node: that of the node that a place carries, if it carries one, and the sum over some nodes
unfoldable pub carried : Tab ℕ → Option ℕ → ℕ
carried f none = 0
carried f (some n) = f n

unfoldable pub over : Tab ℕ → List ℕ → ℕ
over f [] = 0
over f (n ∷ l) = f n + over f l

-- with participant q: in its own bag, behind its push, in the node that it has taken, in the node that it has popped
unfoldable pub waiting_with : ℕ → Tables → Tab ℕ
waiting_with x t q =
    let pl = (the q t).place in
    in_own x t q + waits_at x pl + carried (in_node x t) (taken_node pl) + carried (in_node x t) (popped_node pl)

-- in the queue: in the bags of the nodes that hang on its head
unfoldable pub waiting_queued : (M : ℕ) → ℕ → Tables → ℕ
waiting_queued M x t = over (in_node x t) (hanging M t.shared.node_next (index t.shared.queue_head))

-- how often a token waits
unfoldable pub waiting : (N M : ℕ) → ℕ → Tables → ℕ
waiting N M x t = sum N (waiting_with x t) + waiting_queued M x t

-- whether a call is a defer of this token
unfoldable pub defers : ℕ → Call → ℕ
defers x Call.Acquire = 0
defers x Call.Release = 0
defers x Call.Pin = 0
defers x Call.Unpin = 0
defers x Call.Repin = 0
defers x (Call.Defer y) = branch (eqb x y) 1 0
defers x Call.Flush = 0

-- counted where the call was not refused
unfoldable pub if_accepted : ℕ → Answer → ℕ
if_accepted k (Answer.Done v n) = k
if_accepted k (Answer.More n) = k
if_accepted k (Answer.Refused r) = 0
