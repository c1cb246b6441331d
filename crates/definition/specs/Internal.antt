-- src/internal.rs, access by access: `Local::pin`, `repin`, `unpin`, `finalize` and `Global::try_advance`; and the rule of every place,
-- from these and from the two files of src/sync. Assumes nothing.
use Rattle.std.specs.Prelude.{Bool, ◌&&◌, not, ℕ, ◌+◌, ◌%◌, ◌^◌, eqb}
use Rattle.epoch.specs.Epoch.{starting, is_pinned, pinned, unpinned, successor}
use Rattle.definition.specs.Base.{branch}
use Rattle.definition.specs.Rule.{Rule}
use Rattle.definition.specs.Flow.{on, done, finalize, collected, advanced, walk, counting}
use Rattle.definition.specs.List.{insert, delete, iterate}
use Rattle.definition.specs.Queue.{push, pop}
use Rattle.definition.specs.Types.{Epoch, Slot, Node, Ptr, Pred, Owner, Try, WalkAt, RepinAt, Place, Participant, Word, After, epoch}

-- `Local::PINNINGS_BETWEEN_COLLECT`
unfoldable pub pinnings_between_collect : ℕ
pinnings_between_collect = 128

-- whether a pin with this old count collects
unfoldable pub collects : ℕ → Bool
collects pins = eqb (pins % pinnings_between_collect) 0

-- `Local::pin` after its word is stored: the pin is counted (`Wrapping`), and every so often it collects
unfoldable pub pin_counted : Owner → Participant → After
pin_counted k o =
    let n = counting o.counts.guards o.counts.handles ((o.counts.pins + 1) % 2 ^ 64) o in
    branch (collects o.counts.pins) (on (Place.AdvanceEpoch k) n) (collected k n)

-- `Local::pin`: `let global_epoch = self.global().epoch.load(Relaxed)`
unfoldable pub pin_epoch : Owner → Participant → Rule
pin_epoch k o = Rule.load Word.GlobalEpoch (λ w. on (Place.PinWord k (epoch w)) o)

-- `Local::pin`: the epoch, pinned, goes into its own word. (On x86 by a `compare_exchange`, which document 01 takes as the plain store)
unfoldable pub pin_word : Slot → Owner → Epoch → Participant → Rule
pin_word self k e o = Rule.store (Word.ParticipantWord self) (pinned e.0) (pin_counted k o)

-- `Local::unpin`: `self.epoch.store(Epoch::starting(), Release)`; without a handle it goes on to `finalize`
unfoldable pub unpin_word : Slot → Participant → Rule
unpin_word self o = Rule.store (Word.ParticipantWord self) starting (branch (eqb o.counts.handles 0) (finalize o) (done 0 o))

-- `Local::repin`, at guard count 1
unfoldable pub repin : Slot → Participant → RepinAt → Rule
-- `let epoch = self.epoch.load(Relaxed)`
repin self o RepinAt.Word = Rule.load (Word.ParticipantWord self) (λ w. on (Place.Repin (RepinAt.Epoch (epoch w))) o)
-- `let global_epoch = self.global().epoch.load(Relaxed).pinned()`, `if epoch != global_epoch`
repin self o (RepinAt.Epoch e) = Rule.load Word.GlobalEpoch (λ w.
    branch (eqb e.0 (pinned w)) (done 0 o) (on (Place.Repin (RepinAt.Store (epoch (pinned w)))) o))
-- `self.epoch.store(global_epoch, Release)`
repin self o (RepinAt.Store e) = Rule.store (Word.ParticipantWord self) e.0 (done 0 o)

-- `Global::try_advance`: `let global_epoch = self.epoch.load(Relaxed)`
unfoldable pub advance_epoch : Owner → Participant → Rule
advance_epoch k o = Rule.load Word.GlobalEpoch (λ w. on (Place.Walk (record { owner = k; epoch = epoch w }) WalkAt.Head) o)

-- `Global::try_advance`: `let local_epoch = local.epoch.load(Relaxed)`; one that is pinned in another epoch ends the try
unfoldable pub advance_word : Try → Slot → Ptr → Participant → Rule
advance_word t curr succ o = Rule.load (Word.ParticipantWord curr) (λ w.
    branch (is_pinned w && not (eqb (unpinned w) t.epoch.0)) (advanced t.owner t.epoch o) (walk t (Pred.Entry curr) succ o))

-- `Global::try_advance`: `self.epoch.store(new_epoch, Release)`, and the new epoch is returned
unfoldable pub advance_store : Try → Participant → Rule
advance_store t o = Rule.store Word.GlobalEpoch (successor t.epoch.0) (advanced t.owner (epoch (successor t.epoch.0)) o)

-- `Local::finalize`: the guard's drop, `unpin`, stores the word; then `handle_count.set(0)`
unfoldable pub final_word : Slot → Participant → Rule
final_word self o = Rule.store (Word.ParticipantWord self) starting (on Place.FinalTag (counting o.counts.guards 0 o.counts.pins o))

-- the rule of each place; `spare` is the node that a push takes, `sealed` the seals of the bags in the nodes. No step is made at rest
-- (refusal 5)
unfoldable pub rule : Slot → Node → (Node → ℕ) → Participant → Place → Rule
rule self spare sealed o Place.Rest = Rule.load Word.GlobalEpoch (λ w. on Place.Rest o)
rule self spare sealed o (Place.Register a) = insert self o a
rule self spare sealed o (Place.PinEpoch k) = pin_epoch k o
rule self spare sealed o (Place.PinWord k e) = pin_word self k e o
rule self spare sealed o (Place.Repin a) = repin self o a
rule self spare sealed o Place.UnpinWord = unpin_word self o
rule self spare sealed o (Place.AdvanceEpoch k) = advance_epoch k o
rule self spare sealed o (Place.Walk t a) = iterate t o a
rule self spare sealed o (Place.AdvanceWord t curr succ) = advance_word t curr succ o
rule self spare sealed o (Place.AdvanceStore t) = advance_store t o
rule self spare sealed o (Place.Pop p a) = pop sealed p o a
rule self spare sealed o (Place.Push then a) = push spare then o a
rule self spare sealed o Place.FinalWord = final_word self o
rule self spare sealed o Place.FinalTag = delete self o
