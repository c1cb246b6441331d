-- What `==` answers at two codes: whether they are the same, column by column, as the definition has it.
use Rattle.std.proofs.Common.{◌≡◌, sym, ◌∙◌, Bool, ◌&&◌, nat_eq}
use Rattle.std.proofs.Math.Bool.{and_assoc}
use Rattle.definition.specs.Codec.{same_code}
use Rattle.definition.specs.declared.Code.{Code}

-- as the derive computes it
abbrev pub derived : Code → Code → Bool
derived a b = nat_eq a.number b.number && (nat_eq a.then b.then && (nat_eq a.owner b.owner && (nat_eq a.epoch b.epoch
    && (nat_eq a.left b.left && (nat_eq a.pred b.pred && (nat_eq a.curr b.curr && (nat_eq a.succ b.succ && (nat_eq a.old b.old
    && (nat_eq a.popped b.popped && (nat_eq a.new b.new && (nat_eq a.onto b.onto && (nat_eq a.next b.next && nat_eq a.token b.token))))))))))))

-- so it is the definition's answer; and in the form that an attribute cites
pub derived_same : (a b : Code) → derived a b ≡ same_code a b
unfolding same_code
derived_same a b = sym (simp and_assoc)

pub same_where : (a b : Code) (r : Bool) → r ≡ derived a b → r ≡ same_code a b
same_where a b r e = e ∙ derived_same a b
