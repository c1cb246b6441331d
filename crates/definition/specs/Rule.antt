-- A rule: the one access that a place makes, and what follows for every value that it can see. Which kind of access it is is the rule's
-- form, so that a rule reads as the line of the Rust that it renders. What an access sees, and what it leaves behind; and which one fails for no
-- reason. Assumes nothing.
use Rattle.std.specs.Prelude.{Bool, true, false, ◌&&◌, ℕ, eqb}
use Rattle.definition.specs.Base.{branch}
use Rattle.definition.specs.Links.{tagged}
use Rattle.definition.specs.Tables.{Shared, read, write}
use Rattle.definition.specs.Types.{Word, Ask, Seen, Kind, Access, After}

-- `load`, with the value; `store` of a value; `compare_exchange` of an expected value for a new one, won, or lost to the value found;
-- `compare_exchange_weak`, which may also fail for no reason (`fails`, below); `fetch_or` of the tag
pub data Rule : Type 0 where
  load : Word → (ℕ → After) → Rule
  store : Word → (new : ℕ) → After → Rule
  exchange : Word → (expected new : ℕ) → After → (ℕ → After) → Rule
  exchange_weak : Word → (expected new : ℕ) → After → (ℕ → After) → Rule
  fetch_or : Word → After → Rule

-- the access by itself, and what follows when it is seen
unfoldable pub asks : Rule → Ask
asks (Rule.load w f) = Ask.Load w
asks (Rule.store w v a) = Ask.Store w v
asks (Rule.exchange w e v won lost) = Ask.Exchange w e v
asks (Rule.exchange_weak w e v won lost) = Ask.ExchangeWeak w e v
asks (Rule.fetch_or w a) = Ask.FetchOr w

unfoldable pub follows : Rule → Seen → After
follows (Rule.load w f) s = f s.value
follows (Rule.store w v a) s = a
follows (Rule.exchange w e v won lost) s = branch s.won won (lost s.value)
follows (Rule.exchange_weak w e v won lost) s = branch s.won won (lost s.value)
follows (Rule.fetch_or w a) s = a

-- an exchange is done where the word has the expected value
unfoldable pub agrees : Word → ℕ → Shared → Bool
agrees w e s = eqb (read w s) e

-- what an access sees
unfoldable pub sees : Ask → Shared → Seen
sees (Ask.Load w) s = record { value = read w s; won = true }
sees (Ask.Store w v) s = record { value = 0; won = true }
sees (Ask.Exchange w e v) s = record { value = read w s; won = agrees w e s }
sees (Ask.ExchangeWeak w e v) s = record { value = read w s; won = agrees w e s }
sees (Ask.FetchOr w) s = record { value = read w s; won = true }

-- the shared words that it leaves behind
unfoldable pub leaves : Ask → Shared → Shared
leaves (Ask.Load w) s = s
leaves (Ask.Store w v) s = write w v s
leaves (Ask.Exchange w e v) s = branch (agrees w e s) (write w v s) s
leaves (Ask.ExchangeWeak w e v) s = branch (agrees w e s) (write w v s) s
leaves (Ask.FetchOr w) s = write w (tagged (read w s)) s

-- the access as it was made: what was read and what was stored, 0 where nothing was
unfoldable pub exchanged : Word → ℕ → ℕ → Shared → Access
exchanged w e v s = branch (agrees w e s)
    (record { kind = Kind.ExchangeDone; word = w; read = read w s; stored = v })
    (record { kind = Kind.ExchangeFailed; word = w; read = read w s; stored = 0 })

unfoldable pub made : Ask → Shared → Access
made (Ask.Load w) s = record { kind = Kind.Load; word = w; read = read w s; stored = 0 }
made (Ask.Store w v) s = record { kind = Kind.Store; word = w; read = 0; stored = v }
made (Ask.Exchange w e v) s = exchanged w e v s
made (Ask.ExchangeWeak w e v) s = exchanged w e v s
made (Ask.FetchOr w) s = record { kind = Kind.FetchOr; word = w; read = read w s; stored = tagged (read w s) }

-- document 02, No. 2, which strikes out 01's sentence that `compare_exchange_weak` fails only on a different value: in a marked step it fails
-- although the value agrees. At every other access the mark has no effect
unfoldable pub is_weak : Ask → Bool
is_weak (Ask.Load w) = false
is_weak (Ask.Store w v) = false
is_weak (Ask.Exchange w e v) = false
is_weak (Ask.ExchangeWeak w e v) = true
is_weak (Ask.FetchOr w) = false

unfoldable pub fails : (marked : Bool) → Ask → Bool
fails marked ask = marked && is_weak ask

-- an exchange that fails so: it sees the value that stands there and is not done; as an access, it is one that failed and stored nothing
unfoldable pub missed : Seen → Seen
missed s = record { value = s.value; won = false }

unfoldable pub failed : Access → Access
failed a = record { kind = Kind.ExchangeFailed; word = a.word; read = a.read; stored = 0 }

-- document 02, No. 1: an access and a shared word by number, and the index of the word
unfoldable pub kind_number : Kind → ℕ
kind_number Kind.Load = 1
kind_number Kind.Store = 2
kind_number Kind.ExchangeDone = 3
kind_number Kind.ExchangeFailed = 4
kind_number Kind.FetchOr = 5

unfoldable pub word_number : Word → ℕ
word_number Word.GlobalEpoch = 0
word_number Word.ListHead = 1
word_number (Word.EntryNext i) = 2
word_number (Word.ParticipantWord i) = 3
word_number Word.QueueHead = 4
word_number Word.QueueTail = 5
word_number (Word.NodeNext n) = 6

unfoldable pub word_index : Word → ℕ
word_index Word.GlobalEpoch = 0
word_index Word.ListHead = 0
word_index (Word.EntryNext i) = i.0
word_index (Word.ParticipantWord i) = i.0
word_index Word.QueueHead = 0
word_index Word.QueueTail = 0
word_index (Word.NodeNext n) = n.0
