-- What a mark does (document 02, No. 2), as one statement over all that can be lent: at the link of a registering, where every check is passed and
-- the list's head is the one that the link expects, the exchange fails; anywhere else, and for every refusal, it has no effect. proofs/Marks
-- shows it. Assumes nothing.
use Rattle.std.specs.Prelude.{◌≡◌, true, false, ◌&&◌, List, [], ℕ, length}
use Rattle.definition.specs.Links.{pointer}
use Rattle.definition.specs.Tables.{Tables, with_own}
use Rattle.definition.specs.Flow.{at}
use Rattle.definition.specs.Codec.{record_of}
use Rattle.definition.specs.Ranges.{within_limits}
use Rattle.definition.specs.Layout.{Lent, sized, tables_of, lent_of}
use Rattle.definition.specs.Step.{Out, access_at}
use Rattle.definition.specs.Public.{refusal, the, step_checks, step_lent}
use Rattle.definition.specs.Types.{Ptr, RegisterAt, Place, Word, Kind, Answer}

module _ (N M places p : ℕ) (t : Tables) where
  -- a step of p passes every check; p stands at the link of a registering, which expects `next` at the list's head; and that is what stands there
  pub record Links (next : Ptr) : Type 0 where
    pub passes : refusal (step_checks N M places p t) ≡ 0
    pub stands : (the p t).place ≡ Place.Register (RegisterAt.Link next)
    pub agrees : t.shared.list_head ≡ pointer next

-- the link fails, and p is to store its own next again, as after a lost link. Nothing else has changed
abbrev pub back : ℕ → Ptr → Tables → Out
back p next t = record { tables = with_own p (record_of (at (Place.Register (RegisterAt.Next next)) (the p t))) t; answer = Answer.More 0; freed = [] }

module _ (N M : ℕ) (l : Lent) (p : ℕ) (places : List ℕ) where
  -- the lists have their sizes, and what they hold stands at a link that would be done
  pub record WouldLink (next : Ptr) : Type 0 where
    pub sizes : (within_limits N M && sized N M l) ≡ true
    pub links : Links N M (length places) p (tables_of N M l) next

  pub record Marks : Type 0 where
    -- there a marked step fails: it makes an exchange that failed, which reads the value that stands there and stores nothing, and goes back
    pub there : (next : Ptr) → WouldLink next
        → step_lent N M l p true places ≡ record { answer = Answer.More 0; lent = lent_of N M (back p next (tables_of N M l)).tables; freed = places }
    pub access : (next : Ptr) → WouldLink next
        → access_at true M p (tables_of N M l) ≡ record { kind = Kind.ExchangeFailed; word = Word.ListHead; read = pointer next; stored = 0 }
    -- anywhere else it is the unmarked step
    pub elsewhere : ((next : Ptr) → WouldLink next → ⊥) → step_lent N M l p true places ≡ step_lent N M l p false places
