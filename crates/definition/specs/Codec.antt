-- A place as numbers and back: its number, 0 to 29, and what it carries, one meaning to a column, zero where it carries nothing. An owner
-- is 0 to 2, what a push goes on with 0 to 4; pointers are words as in specs/Links, the head as a predecessor is null. Added by design
-- (document 01: each participant record holds its place). Assumes nothing.
use Rattle.std.specs.Prelude.{Bool, ◌&&◌, ℕ, eqb}
use Rattle.definition.specs.Base.{branch}
use Rattle.definition.specs.Links.{null, link, is_null, index, pointee, pointer}
use Rattle.definition.specs.Types.{Pred, Cursor, Owner, Try, Pops, Deferring, Then, RegisterAt, RepinAt, WalkAt, PopAt, PushAt}
use Rattle.definition.specs.Types.{Place, Participant, Code, Record, slot, node, epoch}

-- all fourteen columns, in their order
abbrev pub columns : (number then owner epoch left pred curr succ old popped new onto next token : ℕ) → Code
columns number then owner epoch left pred curr succ old popped new onto next token = record {
  number = number;
  then = then;
  owner = owner;
  epoch = epoch;
  left = left;
  pred = pred;
  curr = curr;
  succ = succ;
  old = old;
  popped = popped;
  new = new;
  onto = onto;
  next = next;
  token = token;
}

unfoldable pub owner_number : Owner → ℕ
owner_number Owner.Pin = 0
owner_number Owner.Flush = 1
owner_number Owner.Finalize = 2

unfoldable pub pred_pointer : Pred → ℕ
pred_pointer Pred.Head = null
pred_pointer (Pred.Entry s) = link s.0

-- a place that carries no more than an owner and an epoch; one that carries a pointer; one of a walk; one of a pop
abbrev pub bare : (number owner epoch : ℕ) → Code
bare number owner epoch = columns number 0 owner epoch 0 0 0 0 0 0 0 0 0 0

abbrev pub pointing : (number succ : ℕ) → Code
pointing number succ = columns number 0 0 0 0 0 0 succ 0 0 0 0 0 0

abbrev pub walking : Try → (number pred curr succ : ℕ) → Code
walking t number pred curr succ = columns number 0 (owner_number t.owner) t.epoch.0 0 pred curr succ 0 0 0 0 0 0

abbrev pub popping : Pops → (number old popped : ℕ) → Code
popping p number old popped = columns number 0 (owner_number p.owner) p.epoch.0 p.left 0 0 0 old popped 0 0 0 0

-- what a push goes on with, in the columns of a place that has no number yet
unfoldable pub then_code : Then → Code
then_code (Then.Defer (Deferring.Token token)) = columns 0 0 0 0 0 0 0 0 0 0 0 0 0 token
then_code (Then.Defer (Deferring.Slot t c succ)) =
    columns 0 1 (owner_number t.owner) t.epoch.0 0 (pred_pointer c.pred) c.curr.0 (pointer succ) 0 0 0 0 0 0
then_code (Then.Defer (Deferring.Node p old popped)) =
    columns 0 2 (owner_number p.owner) p.epoch.0 p.left 0 0 0 old.0 popped.0 0 0 0 0
then_code Then.Flush = columns 0 3 0 0 0 0 0 0 0 0 0 0 0 0
then_code Then.Finalize = columns 0 4 0 0 0 0 0 0 0 0 0 0 0 0

-- a place of a push: with its nodes
abbrev pub pushing : Then → (number new onto next : ℕ) → Code
pushing f number new onto next =
    let c = then_code f in
    columns number c.then c.owner c.epoch c.left c.pred c.curr c.succ c.old c.popped new onto next c.token

-- the thirty places by number
unfoldable pub code_of : Place → Code
code_of Place.Rest = bare 0 0 0
code_of (Place.Register RegisterAt.Head) = bare 1 0 0
code_of (Place.Register (RegisterAt.Next next)) = pointing 2 (pointer next)
code_of (Place.Register (RegisterAt.Link next)) = pointing 3 (pointer next)
code_of (Place.PinEpoch k) = bare 4 (owner_number k) 0
code_of (Place.PinWord k e) = bare 5 (owner_number k) e.0
code_of (Place.Repin RepinAt.Word) = bare 6 0 0
code_of (Place.Repin (RepinAt.Epoch e)) = bare 7 0 e.0
code_of (Place.Repin (RepinAt.Store e)) = bare 8 0 e.0
code_of Place.UnpinWord = bare 9 0 0
code_of (Place.AdvanceEpoch k) = bare 10 (owner_number k) 0
code_of (Place.Walk t WalkAt.Head) = walking t 11 0 0 0
code_of (Place.Walk t (WalkAt.Next c)) = walking t 12 (pred_pointer c.pred) c.curr.0 0
code_of (Place.AdvanceWord t curr succ) = walking t 13 0 curr.0 (pointer succ)
code_of (Place.Walk t (WalkAt.Unlink c succ)) = walking t 14 (pred_pointer c.pred) c.curr.0 (pointer succ)
code_of (Place.Walk t WalkAt.Stalled) = walking t 15 0 0 0
code_of (Place.AdvanceStore t) = walking t 16 0 0 0
code_of (Place.Pop p PopAt.Head) = popping p 17 0 0
code_of (Place.Pop p (PopAt.Next head)) = popping p 18 head.0 0
code_of (Place.Pop p (PopAt.Exchange head next)) = popping p 19 head.0 next.0
code_of (Place.Pop p (PopAt.Tail head next)) = popping p 20 head.0 next.0
code_of (Place.Pop p (PopAt.TailMove head next)) = popping p 21 head.0 next.0
code_of (Place.Push f PushAt.Epoch) = pushing f 22 0 0 0
code_of (Place.Push f (PushAt.Tail new)) = pushing f 23 new.0 0 0
code_of (Place.Push f (PushAt.Next new onto)) = pushing f 24 new.0 onto.0 0
code_of (Place.Push f (PushAt.Help new onto next)) = pushing f 25 new.0 onto.0 next.0
code_of (Place.Push f (PushAt.Link new onto)) = pushing f 26 new.0 onto.0 0
code_of (Place.Push f (PushAt.Move new onto)) = pushing f 27 new.0 onto.0 0
code_of Place.FinalWord = bare 28 0 0
code_of Place.FinalTag = bare 29 0 0

unfoldable pub record_of : Participant → Record
record_of o = record { counts = o.counts; held = o.held; share = o.share; code = code_of o.place }

-- and back: what the columns say
unfoldable pub owner_of : ℕ → Owner
owner_of n = branch (eqb n 0) Owner.Pin (branch (eqb n 1) Owner.Flush Owner.Finalize)

unfoldable pub pred_of : ℕ → Pred
pred_of w = branch (is_null w) Pred.Head (Pred.Entry (slot (index w)))

abbrev pub cursor_of : Code → Cursor
cursor_of c = record { pred = pred_of c.pred; curr = slot c.curr }

abbrev pub try_of : Code → Try
try_of c = record { owner = owner_of c.owner; epoch = epoch c.epoch }

abbrev pub pops_of : Code → Pops
pops_of c = record { owner = owner_of c.owner; epoch = epoch c.epoch; left = c.left }

unfoldable pub then_of : Code → Then
then_of c = branch (eqb c.then 0) (Then.Defer (Deferring.Token c.token))
    (branch (eqb c.then 1) (Then.Defer (Deferring.Slot (try_of c) (cursor_of c) (pointee c.succ)))
    (branch (eqb c.then 2) (Then.Defer (Deferring.Node (pops_of c) (node c.old) (node c.popped)))
    (branch (eqb c.then 3) Then.Flush Then.Finalize)))

unfoldable pub place_of : Code → Place
place_of c = branch (eqb c.number 0) Place.Rest
    (branch (eqb c.number 1) (Place.Register RegisterAt.Head)
    (branch (eqb c.number 2) (Place.Register (RegisterAt.Next (pointee c.succ)))
    (branch (eqb c.number 3) (Place.Register (RegisterAt.Link (pointee c.succ)))
    (branch (eqb c.number 4) (Place.PinEpoch (owner_of c.owner))
    (branch (eqb c.number 5) (Place.PinWord (owner_of c.owner) (epoch c.epoch))
    (branch (eqb c.number 6) (Place.Repin RepinAt.Word)
    (branch (eqb c.number 7) (Place.Repin (RepinAt.Epoch (epoch c.epoch)))
    (branch (eqb c.number 8) (Place.Repin (RepinAt.Store (epoch c.epoch)))
    (branch (eqb c.number 9) Place.UnpinWord
    (branch (eqb c.number 10) (Place.AdvanceEpoch (owner_of c.owner))
    (branch (eqb c.number 11) (Place.Walk (try_of c) WalkAt.Head)
    (branch (eqb c.number 12) (Place.Walk (try_of c) (WalkAt.Next (cursor_of c)))
    (branch (eqb c.number 13) (Place.AdvanceWord (try_of c) (slot c.curr) (pointee c.succ))
    (branch (eqb c.number 14) (Place.Walk (try_of c) (WalkAt.Unlink (cursor_of c) (pointee c.succ)))
    (branch (eqb c.number 15) (Place.Walk (try_of c) WalkAt.Stalled)
    (branch (eqb c.number 16) (Place.AdvanceStore (try_of c))
    (branch (eqb c.number 17) (Place.Pop (pops_of c) PopAt.Head)
    (branch (eqb c.number 18) (Place.Pop (pops_of c) (PopAt.Next (node c.old)))
    (branch (eqb c.number 19) (Place.Pop (pops_of c) (PopAt.Exchange (node c.old) (node c.popped)))
    (branch (eqb c.number 20) (Place.Pop (pops_of c) (PopAt.Tail (node c.old) (node c.popped)))
    (branch (eqb c.number 21) (Place.Pop (pops_of c) (PopAt.TailMove (node c.old) (node c.popped)))
    (branch (eqb c.number 22) (Place.Push (then_of c) PushAt.Epoch)
    (branch (eqb c.number 23) (Place.Push (then_of c) (PushAt.Tail (node c.new)))
    (branch (eqb c.number 24) (Place.Push (then_of c) (PushAt.Next (node c.new) (node c.onto)))
    (branch (eqb c.number 25) (Place.Push (then_of c) (PushAt.Help (node c.new) (node c.onto) (node c.next)))
    (branch (eqb c.number 26) (Place.Push (then_of c) (PushAt.Link (node c.new) (node c.onto)))
    (branch (eqb c.number 27) (Place.Push (then_of c) (PushAt.Move (node c.new) (node c.onto)))
    (branch (eqb c.number 28) Place.FinalWord
    Place.FinalTag))))))))))))))))))))))))))))

unfoldable pub participant_of : Record → Participant
participant_of r = record { counts = r.counts; held = r.held; share = r.share; place = place_of r.code }

-- whether two places are the same, column by column
unfoldable pub same_code : Code → Code → Bool
same_code a b = eqb a.number b.number && eqb a.then b.then && eqb a.owner b.owner && eqb a.epoch b.epoch
    && eqb a.left b.left && eqb a.pred b.pred && eqb a.curr b.curr && eqb a.succ b.succ && eqb a.old b.old
    && eqb a.popped b.popped && eqb a.new b.new && eqb a.onto b.onto && eqb a.next b.next && eqb a.token b.token
