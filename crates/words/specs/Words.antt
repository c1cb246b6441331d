-- The shared words in the lent lists: which of them an access names, whether it lies in the lists, and what the access leaves of each list.
-- What it sees, when an exchange is done, and when one fails for no reason, is the definition's (specs/Rule); proofs/Laws ties the rest to it.
-- Assumes nothing.
use Rattle.std.specs.Prelude.{◌≡◌, Bool, List, ℕ, ◌+◌, ◌*◌, ◌≤◌, length, set}
use Rattle.definition.specs.Base.{branch}
use Rattle.definition.specs.Links.{tagged}
use Rattle.definition.specs.Tables.{Shared, read}
use Rattle.definition.specs.Rule.{agrees, sees, fails, missed}
use Rattle.definition.specs.Layout.{Lent, shared_from}
use Rattle.definition.specs.declared.Word.{Word}
use Rattle.definition.specs.declared.Ask.{Ask}
use Rattle.definition.specs.declared.Seen.{Seen}
use Rattle.words.specs.declared.Home.{Home}

-- the shared words of the lists
abbrev pub shared_of : Lent → Shared
shared_of l = shared_from l.globals l.participants l.nodes

-- and one of them
abbrev pub word_of : Word → Lent → ℕ
word_of w l = read w (shared_of l)

-- the word that an access names
abbrev pub named : Ask → Word
named (Ask.Load w) = w
named (Ask.Store w v) = w
named (Ask.Exchange w e v) = w
named (Ask.ExchangeWeak w e v) = w
named (Ask.FetchOr w) = w

-- a word lies in the lists: `globals` has the four words before the set-aside total, or the whole row of the participant or node is there
abbrev pub word_in : Word → Lent → Type 0
word_in Word.GlobalEpoch l = 4 ≤ length l.globals
word_in Word.ListHead l = 4 ≤ length l.globals
word_in (Word.EntryNext i) l = i.0 * 21 + 21 ≤ length l.participants
word_in (Word.ParticipantWord i) l = i.0 * 21 + 21 ≤ length l.participants
word_in Word.QueueHead l = 4 ≤ length l.globals
word_in Word.QueueTail l = 4 ≤ length l.globals
word_in (Word.NodeNext k) l = k.0 * 3 + 3 ≤ length l.nodes

-- where a word stands: at an index of `globals`, in a row and a column of `participants`, or first in a row of `nodes`
abbrev pub home_of : Word → Home
home_of Word.GlobalEpoch = Home.Globals 0
home_of Word.ListHead = Home.Globals 1
home_of (Word.EntryNext i) = Home.Participants i.0 1
home_of (Word.ParticipantWord i) = Home.Participants i.0 0
home_of Word.QueueHead = Home.Globals 2
home_of Word.QueueTail = Home.Globals 3
home_of (Word.NodeNext k) = Home.Nodes k.0

-- what a store of v to a word does to each list
unfoldable pub write_globals : Word → ℕ → List ℕ → List ℕ
write_globals Word.GlobalEpoch v g = set g 0 v
write_globals Word.ListHead v g = set g 1 v
write_globals (Word.EntryNext i) v g = g
write_globals (Word.ParticipantWord i) v g = g
write_globals Word.QueueHead v g = set g 2 v
write_globals Word.QueueTail v g = set g 3 v
write_globals (Word.NodeNext k) v g = g

unfoldable pub write_participants : Word → ℕ → List ℕ → List ℕ
write_participants Word.GlobalEpoch v p = p
write_participants Word.ListHead v p = p
write_participants (Word.EntryNext i) v p = set p (i.0 * 21 + 1) v
write_participants (Word.ParticipantWord i) v p = set p (i.0 * 21) v
write_participants Word.QueueHead v p = p
write_participants Word.QueueTail v p = p
write_participants (Word.NodeNext k) v p = p

unfoldable pub write_nodes : Word → ℕ → List ℕ → List ℕ
write_nodes Word.GlobalEpoch v n = n
write_nodes Word.ListHead v n = n
write_nodes (Word.EntryNext i) v n = n
write_nodes (Word.ParticipantWord i) v n = n
write_nodes Word.QueueHead v n = n
write_nodes Word.QueueTail v n = n
write_nodes (Word.NodeNext k) v n = set n (k.0 * 3) v

-- and to all the lent lists
abbrev pub write_lent : Word → ℕ → Lent → Lent
write_lent w v l = record {
  globals = write_globals w v l.globals;
  participants = write_participants w v l.participants;
  nodes = write_nodes w v l.nodes;
  held = l.held;
  queued = l.queued;
}

-- what an access leaves of a list, by what a store does to it: an exchange stores only where it is done
unfoldable pub left_by : (Word → ℕ → List ℕ → List ℕ) → Ask → Shared → List ℕ → List ℕ
left_by write (Ask.Load w) s l = l
left_by write (Ask.Store w v) s l = write w v l
left_by write (Ask.Exchange w e v) s l = branch (agrees w e s) (write w v l) l
left_by write (Ask.ExchangeWeak w e v) s l = branch (agrees w e s) (write w v l) l
left_by write (Ask.FetchOr w) s l = write w (tagged (read w s)) l

abbrev pub left_globals : Ask → Lent → List ℕ
left_globals ask l = left_by write_globals ask (shared_of l) l.globals

abbrev pub left_participants : Ask → Lent → List ℕ
left_participants ask l = left_by write_participants ask (shared_of l) l.participants

abbrev pub left_nodes : Ask → Lent → List ℕ
left_nodes ask l = left_by write_nodes ask (shared_of l) l.nodes

-- and of all the lent lists
abbrev pub left_lent : Ask → Lent → Lent
left_lent ask l = record {
  globals = left_globals ask l;
  participants = left_participants ask l;
  nodes = left_nodes ask l;
  held = l.held;
  queued = l.queued;
}

-- what an access sees, in a step that is marked or not (document 02, No. 2): one that fails for no reason sees the value, and is not done
abbrev pub seen_by : (marked : Bool) → Ask → Shared → Seen
seen_by marked ask s = branch (fails marked ask) (missed (sees ask s)) (sees ask s)

-- an access was made: the lists before it, what it saw, and the lists after it. One that fails for no reason leaves every list as it was
pub record Made (marked : Bool) (ask : Ask) (l : Lent) (r : Seen) (l' : Lent) : Type 0 where
  pub seen : r ≡ seen_by marked ask (shared_of l)
  pub lent : l' ≡ branch (fails marked ask) l (left_lent ask l)
