-- The checks of a code are true exactly where it is valid.
use Rattle.std.proofs.Common.{◌≡◌, ℕ, ◌<◌, ◌≤◌, ◌^◌, leb, ltb, List, [], ◌∷◌, length, refl}
use Rattle.std.proofs.Common.{Option, Some, None, Bool, true, false, ◌&&◌, Decides}
use Rattle.std.specs.Prelude.{slice_get}
use Rattle.std.specs.List.{All}
use Rattle.std.proofs.lemmas.Bool.{false≢true, leb-true, le-leb}
use Rattle.std.proofs.lemmas.Bool.Decides.{Decides-and, Decides-by_and, Decides-eqb, Decides-ltb}
use Rattle.hy_terms.proofs.RangeLemmas.{in_range_is, is_in_range_of}
use Rattle.hy_core.specs.declared.info.SiteInfo.{SiteInfo}
use Rattle.hy_core.specs.declared.info.SiteKind.{SiteKind}
use Rattle.hy_core.specs.declared.info.SiteKind.TheVariants as kind
use Rattle.hy_ir.specs.Arity.{bif_arity}
use Rattle.hy_ir.specs.Checking as check
use Rattle.hy_ir.specs.Checking.{checked, all_checked, test_checked, tests_checked, guard_checked}
use Rattle.hy_ir.specs.Checking.{tree_checked, parts_checked, part_checked, last_checked}
use Rattle.hy_ir.specs.Checking.{arms_checked, lapse_checked, function_checked, functions_checked}
use Rattle.hy_ir.specs.Checking.{sites_checked, code_checked}
use Rattle.hy_ir.specs.Code as c
use Rattle.hy_ir.specs.Code.{Arms, NoArms, MoreArms, Code, Function, Lapse, NoLapse, LapseTo, Last}
use Rattle.hy_ir.specs.Code.{Part, Parts, NoParts, MoreParts, Tree, MakeTree}
use Rattle.hy_ir.specs.Meaning.{kind_at}
use Rattle.hy_ir.specs.Valid.{IsConstant, IsBuilt, TakesAs, GivesSoMany, AreRegisters}
use Rattle.hy_ir.specs.Valid.{IsValidOperation, IsValidTest, IsValidGuard, IsValidTree}
use Rattle.hy_ir.specs.Valid.{AreValidParts, IsValidPart, IsValidLast, AreValidArms, IsValidLapse}
use Rattle.hy_ir.specs.Valid.{IsValidFunction, IsValid}
use Rattle.hy_ir.specs.declared.code.Constant.{Constant}
use Rattle.hy_ir.specs.declared.code.Constant.TheVariants as constant
use Rattle.hy_ir.specs.declared.code.Guard.{Guard}
use Rattle.hy_ir.specs.declared.code.Op.{Op}
use Rattle.hy_ir.specs.declared.code.Op.TheVariants as op
use Rattle.hy_ir.specs.declared.code.Test.{Test}
use Rattle.hy_ir.specs.declared.code.Test.TheVariants as test

yes : Decides true (Unit {0})
yes = (λ e. tt, λ u. refl)

no : Decides false ⊥
no = (λ e. false≢true e, λ h. absurd h)

at_most : (a b : ℕ) → Decides (leb a b) (a ≤ b)
at_most a b = (λ e. leb-true a b e, λ h. le-leb a b h)

three : {P Q R : Type 0} (x y z : Bool) → Decides x P → Decides y Q → Decides z R
    → Decides (x && (y && z)) (P × Q × R)
three x y z p q r =
    let all = Decides-and x (y && z) p (Decides-and y z q r) in
    (λ e. let h = all.0 e in (h.0, h.1.0, h.1.1), λ h. all.1 (h.0, (h.1, h.2)))

four : {P Q R S : Type 0} (x y z w : Bool) → Decides x P → Decides y Q → Decides z R → Decides w S
    → Decides (x && (y && (z && w))) (P × Q × R × S)
four x y z w p q r s =
    let all = Decides-and x (y && (z && w)) p (three y z w q r s) in
    (λ e. let h = all.0 e in (h.0, h.1.0, h.1.1, h.1.2), λ h. all.1 (h.0, (h.1, h.2, h.3)))

constant_decided : (k : Constant) → Decides (check.is_constant k) (IsConstant k)
constant_decided (constant.Int n) = (in_range_is n, is_in_range_of n)
constant_decided (constant.Atom atom) = yes
constant_decided constant.Nil = yes

built_decided : (k : Option SiteKind) (n : ℕ) → Decides (check.is_built k n) (IsBuilt k n)
built_decided None n = no
built_decided (Some kind.Tuple) n = at_most n (2 ^ 20)
built_decided (Some kind.Cons) n = Decides-eqb n 2
built_decided (Some kind.String) n = no
built_decided (Some kind.Setelement) n = no

text_site_decided : (k : Option SiteKind) → Decides (check.is_text_site k) (k ≡ Some kind.String)
text_site_decided None = (λ e. absurd (false≢true e), λ h. absurd cc)
text_site_decided (Some kind.Tuple) = (λ e. absurd (false≢true e), λ h. absurd cc)
text_site_decided (Some kind.Cons) = (λ e. absurd (false≢true e), λ h. absurd cc)
text_site_decided (Some kind.String) = (λ e. refl, λ h. refl)
text_site_decided (Some kind.Setelement) = (λ e. absurd (false≢true e), λ h. absurd cc)

set_site_decided : (k : Option SiteKind)
    → Decides (check.is_set_site k) (k ≡ Some kind.Setelement)
set_site_decided None = (λ e. absurd (false≢true e), λ h. absurd cc)
set_site_decided (Some kind.Tuple) = (λ e. absurd (false≢true e), λ h. absurd cc)
set_site_decided (Some kind.Cons) = (λ e. absurd (false≢true e), λ h. absurd cc)
set_site_decided (Some kind.String) = (λ e. absurd (false≢true e), λ h. absurd cc)
set_site_decided (Some kind.Setelement) = (λ e. refl, λ h. refl)

takes_decided : (f : Option Function) (n : ℕ) → Decides (check.takes_as f n) (TakesAs f n)
takes_decided None n = no
takes_decided (Some f) n = Decides-eqb n f.params

gives_decided : (inner : Option ℕ) (n : ℕ)
    → Decides (check.gives_so_many inner n) (GivesSoMany inner n)
gives_decided None n = Decides-eqb n 1
gives_decided (Some values) n = Decides-eqb n values

outermost_decided : (inner : Option ℕ) → Decides (check.is_outermost inner) (inner ≡ None)
outermost_decided None = (λ e. refl, λ h. refl)
outermost_decided (Some values) = (λ e. absurd (false≢true e), λ h. absurd cc)

module _ (code : Code) (n : ℕ) where
  registers_decided : (rs : List ℕ)
      → Decides (check.are_registers n rs) (AreRegisters code n rs)
  registers_decided =
      Decides-by_and (λ r. ltb r n) (λ r. r < n) (check.are_registers n) (λ r. Decides-ltb r n) refl
      (λ r rs. refl)

  three_decided : (a b d : ℕ)
      → Decides (ltb a n && (ltb b n && ltb d n)) (AreRegisters code n (a ∷ b ∷ d ∷ []))
  three_decided a b d =
      let each = registers_decided (a ∷ b ∷ d ∷ []) in
      both_three (ltb a n) (ltb b n) (ltb d n) each
    where
      and_true : (x : Bool) → (x && true) ≡ x
      and_true true = refl
      and_true false = refl

      both_three : (x y z : Bool)
          → Decides (x && (y && (z && true))) (AreRegisters code n (a ∷ b ∷ d ∷ []))
          → Decides (x && (y && z)) (AreRegisters code n (a ∷ b ∷ d ∷ []))
      both_three x y true h = h
      both_three x y false h = h

  operation_decided : (o : Op) → Decides (checked code n o) (IsValidOperation code n o)
  operation_decided (op.Const out value) =
      Decides-and _ _ (Decides-ltb out n) (constant_decided value)
  operation_decided (op.Move out from) =
      Decides-and _ _ (Decides-ltb out n) (Decides-ltb from n)
  operation_decided (op.Build site out args) =
      three _ _ _ (Decides-ltb out n) (registers_decided args)
      (built_decided (kind_at code.sites site) (length args))
  operation_decided (op.Text site out text) =
      four _ _ _ _ (Decides-ltb out n) (text_site_decided (kind_at code.sites site))
      (at_most 1 (length text)) (at_most (length text) (2 ^ 20))
  operation_decided (op.Set site out index tuple value) =
      three _ _ _ (Decides-ltb out n) (three_decided index tuple value)
      (set_site_decided (kind_at code.sites site))
  operation_decided (op.Bif out bif args) =
      three _ _ _ (Decides-ltb out n) (registers_decided args)
      (Decides-eqb (length args) (bif_arity bif))
  operation_decided (op.Call out f args) =
      three _ _ _ (Decides-ltb out n) (registers_decided args)
      (takes_decided (slice_get code.functions f) (length args))
  operation_decided (op.Send node out to message) =
      three _ _ _ (Decides-ltb out n) (Decides-ltb to n) (Decides-ltb message n)
  operation_decided (op.Spawn node out f args) =
      four _ _ _ _ (Decides-ltb out n) (registers_decided args)
      (takes_decided (slice_get code.functions f) (length args)) (at_most (length args) 255)
  operation_decided (op.Show out value) =
      Decides-and _ _ (Decides-ltb out n) (Decides-ltb value n)

  operations_decided : (os : List Op)
      → Decides (all_checked code n os) (All (IsValidOperation code n) os)
  operations_decided =
      Decides-by_and (checked code n) (IsValidOperation code n) (all_checked code n)
      operation_decided refl (λ o os. refl)

  test_decided : (t : Test) → Decides (test_checked code n t) (IsValidTest code n t)
  test_decided (test.Bind out from) = Decides-and _ _ (Decides-ltb out n) (Decides-ltb from n)
  test_decided (test.IsInt from value) = Decides-ltb from n
  test_decided (test.IsAtom from atom) = Decides-ltb from n
  test_decided (test.IsNil from) = Decides-ltb from n
  test_decided (test.IsText from text) = Decides-ltb from n
  test_decided (test.IsTuple from size outs) =
      three _ _ _ (Decides-ltb from n) (registers_decided outs) (Decides-eqb (length outs) size)
  test_decided (test.IsCons from head tail) =
      three _ _ _ (Decides-ltb from n) (Decides-ltb head n) (Decides-ltb tail n)

  tests_decided : (ts : List Test)
      → Decides (tests_checked code n ts) (All (IsValidTest code n) ts)
  tests_decided =
      Decides-by_and (test_checked code n) (IsValidTest code n) (tests_checked code n) test_decided
      refl (λ t ts. refl)

  guard_decided : (g : Guard) → Decides (guard_checked code n g) (IsValidGuard code n g)
  guard_decided g =
      Decides-and _ _ (operations_decided g.operations) (Decides-ltb g.register n)

  -- the arms of a list are checked in another grouping than they are said
  regrouped : (x y z w : Bool) {P : Type 0} → Decides (x && (y && (z && w))) P
      → Decides ((x && (y && z)) && w) P
  regrouped true true z w h = h
  regrouped true false z w h = h
  regrouped false y z w h = h

  mutual
    tree_decided : (inner : Option ℕ) (t : Tree)
        → Decides (tree_checked code n inner t) (IsValidTree code n inner t)
    tree_decided inner (MakeTree ps end) =
        Decides-and _ _ (parts_decided ps) (last_decided inner end)

    parts_decided : (ps : Parts) → Decides (parts_checked code n ps) (AreValidParts code n ps)
    parts_decided NoParts = yes
    parts_decided (MoreParts p ps) = Decides-and _ _ (part_decided p) (parts_decided ps)

    part_decided : (p : Part) → Decides (part_checked code n p) (IsValidPart code n p)
    part_decided (c.Do o) = operation_decided o
    part_decided (c.Within outs inner) =
        Decides-and _ _ (registers_decided outs) (tree_decided (Some (length outs)) inner)

    last_decided : (inner : Option ℕ) (end : Last)
        → Decides (last_checked code n inner end) (IsValidLast code n inner end)
    last_decided inner (c.Give rs) =
        Decides-and _ _ (registers_decided rs) (gives_decided inner (length rs))
    last_decided inner (c.Tail f args) =
        three _ _ _ (outermost_decided inner) (registers_decided args)
        (takes_decided (slice_get code.functions f) (length args))
    last_decided inner (c.Raise class reason) = Decides-ltb reason n
    last_decided inner (c.Fail reason) = Decides-ltb reason n
    last_decided inner (c.Choose xs) = arms_decided inner xs
    last_decided inner (c.Receive message xs lapse) =
        three _ _ _ (Decides-ltb message n) (arms_decided inner xs) (lapse_decided inner lapse)

    arms_decided : (inner : Option ℕ) (xs : Arms)
        → Decides (arms_checked code n inner xs) (AreValidArms code n inner xs)
    arms_decided inner NoArms = yes
    arms_decided inner (MoreArms tests guard body xs) =
        regrouped (tests_checked code n tests) (guard_checked code n guard)
        (tree_checked code n inner body) (arms_checked code n inner xs)
        (four _ _ _ _ (tests_decided tests) (guard_decided guard) (tree_decided inner body)
        (arms_decided inner xs))

    lapse_decided : (inner : Option ℕ) (lapse : Lapse)
        → Decides (lapse_checked code n inner lapse) (IsValidLapse code n inner lapse)
    lapse_decided inner NoLapse = yes
    lapse_decided inner (LapseTo t) = tree_decided inner t

function_decided : (code : Code) (f : Function)
    → Decides (function_checked code f) (IsValidFunction code f)
function_decided code f =
    let d = Decides-and (leb f.params f.registers) (tree_checked code f.registers None f.body)
    (at_most f.params f.registers) (tree_decided code f.registers None f.body) in (
      λ e. let both = d.0 e in record { params = both.0; body = both.1 },
      λ is. d.1 (is.params, is.body),
    )

functions_decided : (code : Code) (fs : List Function)
    → Decides (functions_checked code fs) (All (IsValidFunction code) fs)
functions_decided code =
    Decides-by_and (function_checked code) (IsValidFunction code) (functions_checked code)
    (function_decided code) refl (λ f fs. refl)

sites_decided : (functions : ℕ) (sites : List SiteInfo)
    → Decides (sites_checked functions sites) (All (λ site. site.function < functions) sites)
sites_decided functions =
    Decides-by_and (λ (site : SiteInfo). ltb site.function functions)
    (λ (site : SiteInfo). site.function < functions) (sites_checked functions)
    (λ site. Decides-ltb site.function functions) refl (λ site sites. refl)

pub code_decided : (code : Code) → Decides (code_checked code) (IsValid code)
code_decided code =
    let d = Decides-and _ _
    (Decides-and _ _ (at_most (length code.functions) 65535)
    (at_most (length code.sites) (2 ^ 20)))
    (Decides-and _ _ (Decides-eqb (length code.names) (length code.functions))
    (Decides-and _ _ (sites_decided (length code.functions) code.sites)
    (functions_decided code code.functions))) in (
      λ e.
          let all = d.0 e in
          record {
            few_functions = all.0.0;
            few_sites = all.0.1;
            names = all.1.0;
            sites = all.1.1.0;
            functions = all.1.1.1;
          },
      λ is. d.1 ((is.few_functions, is.few_sites), (is.names, (is.sites, is.functions))),
    )
