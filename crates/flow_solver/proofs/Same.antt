-- The tests of sets, of sets of fields and of members are their equality.
use Rattle.std.proofs.Common.{◌≡◌, ℕ, Bool, true, ◌&&◌, eqb, refl, sym, ap, eqb-true, eq-eqb}
use Rattle.std.proofs.Common.{true≢false}
use Rattle.std.proofs.lemmas.Bool.{and_parts}
use Rattle.flow_sets.specs.declared.inclusion.FlowSet.{FlowSet}
use Rattle.flow_sets.specs.declared.inclusion.FlowSet.TheVariants.{Only, Register, Result, Field}
use Rattle.flow_sets.specs.declared.inclusion.FlowSet.TheVariants.{Message, Sent}
use Rattle.flow_solver.specs.contracts.members.MemberPartialEq.TheImpl as member
use Rattle.flow_solver.specs.declared.fields.FieldSet.{FieldSet}
use Rattle.flow_solver.specs.declared.fields.FieldSet.TheVariants.{One, All}
use Rattle.flow_solver.specs.declared.members.Member.{Member}
use Rattle.flow_solver.specs.code.Readers.{is_set}
use Rattle.flow_solver.specs.code.Tables.{is_fields}

abbrev pub is_member : Member → Member → Bool
is_member x y = (member.eq-value).it x y

two_same : (a b c d : ℕ) → (eqb a b && eqb c d) ≡ true → (a ≡ b) × (c ≡ d)
two_same a b c d h = let p = and_parts (eqb a b) (eqb c d) h in (eqb-true a b p.0, eqb-true c d p.1)

itself : (a : ℕ) → eqb a a ≡ true
itself a = eq-eqb a a refl

pub is_set-same : (x y : FlowSet) → is_set x y ≡ true → x ≡ y
is_set-same (Only s) (Only t) h = ap Only (eqb-true s t h)
is_set-same (Register f r) (Register g q) h =
    let p = two_same f g r q h in λ i. Register (p.0 i) (p.1 i)
is_set-same (Result f) (Result g) h = ap Result (eqb-true f g h)
is_set-same (Field f r) (Field g q) h = let p = two_same f g r q h in λ i. Field (p.0 i) (p.1 i)
is_set-same Message Message h = refl
is_set-same Sent Sent h = refl
is_set-same x y h = absurd (true≢false (sym h))

pub is_set-itself : (x : FlowSet) → is_set x x ≡ true
is_set-itself (Only s) = itself s
is_set-itself (Register f r) = λ i. itself f i && itself r i
is_set-itself (Result f) = itself f
is_set-itself (Field f r) = λ i. itself f i && itself r i
is_set-itself Message = refl
is_set-itself Sent = refl

pub is_fields-same : (x y : FieldSet) → is_fields x y ≡ true → x ≡ y
is_fields-same (One f r) (One g q) h = let p = two_same f g r q h in λ i. One (p.0 i) (p.1 i)
is_fields-same (All s) (All t) h = ap All (eqb-true s t h)
is_fields-same x y h = absurd (true≢false (sym h))

pub is_fields-itself : (x : FieldSet) → is_fields x x ≡ true
is_fields-itself (One f r) = λ i. itself f i && itself r i
is_fields-itself (All s) = itself s

pub is_member-same : (x y : Member) → is_member x y ≡ true → x ≡ y
is_member-same x y h =
    let p = and_parts (is_set x.set y.set) (eqb x.site y.site) h in
    λ i. record { set = is_set-same x.set y.set p.0 i; site = eqb-true x.site y.site p.1 i }
