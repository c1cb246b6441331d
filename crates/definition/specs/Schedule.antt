-- The schedule program: records of 8 bytes in, lines out, from a fresh start with N 32 and M 128. Document 01, "Schedule program".
-- Bytes are numbers below 256; letters are their ASCII codes. Assumes nothing.
use Rattle.std.specs.Prelude.{Bool, true, false, ◌&&◌, List, [], ◌∷◌, ◌++◌, ℕ, zero, suc, ◌+◌, ◌*◌, ◌/◌, ◌%◌, eqb, ltb, leb, length, get_or, take, drop}
use Rattle.definition.specs.Base.{branch}
use Rattle.definition.specs.Tables.{Tables}
use Rattle.definition.specs.Step.{Out}
use Rattle.definition.specs.Public.{refused}
use Rattle.definition.specs.Ranges.{fresh}
use Rattle.definition.specs.Runs.{Event, does}
use Rattle.definition.specs.Types.{Call, Answer}

-- action, participant, two zero bytes, token, lowest byte first
unfoldable pub token_in : List ℕ → ℕ
token_in b = get_or b 4 0 + 256 * (get_or b 5 0 + 256 * (get_or b 6 0 + 256 * get_or b 7 0))

-- document 01's nine actions, and 9, a marked step (document 02, No. 2)
unfoldable pub action_of : (action participant token : ℕ) → Event
action_of a p t = branch (eqb a 0) (Event.steps p false) (branch (eqb a 1) Event.registers
    (branch (eqb a 2) (Event.calls p Call.Acquire) (branch (eqb a 3) (Event.calls p Call.Release)
    (branch (eqb a 4) (Event.calls p Call.Pin) (branch (eqb a 5) (Event.calls p Call.Unpin)
    (branch (eqb a 6) (Event.calls p Call.Repin) (branch (eqb a 7) (Event.calls p (Call.Defer t))
    (branch (eqb a 8) (Event.calls p Call.Flush) (Event.steps p true)))))))))

-- what makes a record whole: 8 bytes, an action of 0 to 9, zero bytes, a token for a defer only, no participant for a register
unfoldable pub whole : List ℕ → Bool
whole b = eqb (length b) 8 && leb (get_or b 0 0) 9 && eqb (get_or b 2 0) 0 && eqb (get_or b 3 0) 0
    && branch (eqb (get_or b 0 0) 7) true (eqb (token_in b) 0) && branch (eqb (get_or b 0 0) 1) (eqb (get_or b 1 0) 0) true

-- one record: 13 where it is broken, with nothing changed
unfoldable pub played : List ℕ → Tables → Out
played b t = branch (whole b) (does 32 128 (action_of (get_or b 0 0) (get_or b 1 0) (token_in b)) t) (refused 13 t)

-- a number in decimal, of at most `fuel` digits
unfoldable pub digits : (fuel n : ℕ) → List ℕ
digits zero n = []
digits (suc fuel) n = branch (ltb n 10) [] (digits fuel (n / 10)) ++ (48 + n % 10) ∷ []

unfoldable pub decimal : ℕ → List ℕ
decimal n = digits 20 n

-- `more`, `done V`, `refused R`
unfoldable pub answer_text : Answer → List ℕ
answer_text (Answer.More k) = 109 ∷ 111 ∷ 114 ∷ 101 ∷ []
answer_text (Answer.Done v k) = 100 ∷ 111 ∷ 110 ∷ 101 ∷ 32 ∷ decimal v
answer_text (Answer.Refused r) = 114 ∷ 101 ∷ 102 ∷ 117 ∷ 115 ∷ 101 ∷ 100 ∷ 32 ∷ decimal r

-- then ` +T` for each freed token
unfoldable pub freed_text : List ℕ → List ℕ
freed_text [] = []
freed_text (t ∷ l) = 32 ∷ 43 ∷ decimal t ++ freed_text l

unfoldable pub line : Out → List ℕ
line o = answer_text o.answer ++ freed_text o.freed ++ 10 ∷ []

-- records one after another, `fuel` at most; the last may be short
unfoldable pub lines : ℕ → List ℕ → Tables → List ℕ
lines zero b t = []
lines (suc fuel) [] t = []
lines (suc fuel) (x ∷ b) t = let o = played (take 8 (x ∷ b)) t in line o ++ lines fuel (drop 8 (x ∷ b)) o.tables

-- the whole output for a whole input
unfoldable pub schedule : List ℕ → List ℕ
schedule b = lines (length b) b (fresh 32 128)
