-- An accepted program of at least one module has a function with which it begins.
use Rattle.std.proofs.Common.{◌≡◌, ◌+◌, ◌==◌, ◌&&◌, ◌<◌, if◌then◌else◌, ℕ, zero, suc, Bool, true, false, List, [], ◌∷◌, ◌++◌, length, map, codes, Option, Some, None, refl, sym, ap, ◌∙◌, subst, arith, inl, inr, eq-eqb}
use Rattle.std.specs.List.{Contains}
use Rattle.std.specs.Str.{bytes_eq}
use Rattle.std.proofs.lemmas.List.{length-append, length-map}
use Rattle.std.proofs.lemmas.Slice.Eq.{bytes_eq-Decides}
use Rattle.hy_terms.specs.Naming.{one_on, text_of}
use Rattle.hy_core.specs.Faults.{IsAccepted, no_main}
use Rattle.hy_core.specs.FullRun.{main_of, main_number, names_of, trees_of}
use Rattle.hy_core.specs.NameFaults.{ExportsMain, exports_main, modules_of}
use Rattle.hy_core.specs.Nodes.{names_of as defined_names}
use Rattle.hy_core.specs.Numbered.{numbered_program}
use Rattle.hy_core.specs.PreludeModules.{with_prelude}
use Rattle.hy_core.specs.Resolved.{FunctionTree}
use Rattle.hy_core.specs.Tables.{info_of, local_infos, program_atoms, renamed, renamed_name, top_infos}
use Rattle.hy_core.specs.declared.info.FunInfo.{FunInfo}
use Rattle.hy_core.specs.declared.tree.FunName.{FunName}
use Rattle.hy_core.specs.declared.tree.Function.{Function}
use Rattle.hy_core.specs.declared.tree.Module.{Module}
use Rattle.hy_core.specs.declared.tree.Program.{Program}
use Rattle.core_accepted.specs.AcceptedPrograms.{HasItsMain, OfAcceptedModules}
use Rattle.core_accepted.proofs.KnownPrograms.{module_fine}
use Rattle.core_accepted.proofs.Membership.{contains_first}
use Rattle.core_accepted.proofs.ProgramKnown.{trees_take}
use Rattle.core_accepted.proofs.ProgramNames.{Listed, listed_of, module_arities}
use Rattle.core_accepted.proofs.ProgramTexts.{kept_text}

-- a number is found, and is below a bound
abbrev IsBelow : ℕ → Option ℕ → Type 0
IsBelow n None = ⊥
IsBelow n (Some k) = k < n

one_more : (n : ℕ) (o : Option ℕ) → IsBelow n o → IsBelow (suc n) (one_on o)
one_more n None h = h
one_more n (Some k) h = omega (arith, h)

stable_less : (n k : ℕ) → ((k < n → ⊥) → ⊥) → k < n
stable_less zero k h = absurd (h (λ below. omega (arith, below)))
stable_less (suc n) zero h = omega arith
stable_less (suc n) (suc k) h =
    omega (arith, stable_less n k (λ other. h (λ below. other (omega (arith, below)))))

stable_below : (n : ℕ) (o : Option ℕ) → ((IsBelow n o → ⊥) → ⊥) → IsBelow n o
stable_below n None h = h (λ x. x)
stable_below n (Some k) h = stable_less n k h

-- a listed 'main'/0 is found, at a place in the list
module _ (atoms : List (List ℕ)) (mm : ℕ) (ff : FunName)
    (is_main : bytes_eq (text_of atoms ff.name) (codes "main") ≡ true)
    (no_argument : ff.arity ≡ 0) where
  abbrev is_it : FunInfo → Bool
  is_it i =
      (i.module == mm)
      && (bytes_eq (text_of atoms i.name.name) (codes "main") && (i.name.arity == 0))

  it_is : (i : FunInfo) → i.module ≡ mm → i.name ≡ ff → is_it i ≡ true
  it_is i of_module named j =
      eq-eqb i.module mm of_module j
      && ((ap (λ (f : FunName). bytes_eq (text_of atoms f.name) (codes "main")) named ∙ is_main) j
      && eq-eqb i.name.arity 0 (ap (λ (f : FunName). f.arity) named ∙ no_argument) j)

  first_or_later : (n : ℕ) (b : Bool) (o : Option ℕ) → IsBelow n o
      → IsBelow (suc n) (if b then Some 0 else one_on o)
  first_or_later n true o h = omega arith
  first_or_later n false o h = one_more n o h

  found : (is more : List FunInfo) → Listed mm ff is
      → IsBelow (length is) (main_number atoms (is ++ more) mm)
  found [] more h = absurd h
  found (i ∷ is) more (inl same) =
      subst (λ b. IsBelow (suc (length is))
      (if b then Some 0 else one_on (main_number atoms (is ++ more) mm)))
      (sym (it_is i same.0 same.1)) (omega arith)
  found (i ∷ is) more (inr later) =
      first_or_later (length is) (is_it i) (main_number atoms (is ++ more) mm)
      (found is more later)

length_tops : (table : List (List ℕ)) (ms : List Module)
    → length (top_infos table ms) ≡ length (module_arities ms)
length_tops table [] = refl
length_tops table (m ∷ ms) =
    let infos = map (info_of table m) m.functions in
    let own = map (λ (f : Function). length f.params) m.functions in
    length-append infos (top_infos table ms)
    ∙ (λ i. (length-map m.functions (info_of table m)
    ∙ sym (length-map m.functions (λ (f : Function). length f.params))) i
    + length_tops table ms i)
    ∙ sym (length-append own (module_arities ms))

module _ (m : Module) (modules : List Module)
    (accepted : IsAccepted (with_prelude (m ∷ modules))) where
  abbrev program : Program
  program = with_prelude (m ∷ modules)

  abbrev table : List (List ℕ)
  table = program_atoms program

  abbrev tops : List FunInfo
  tops = top_infos table (modules_of program)

  abbrev main : Option ℕ
  main = main_of (names_of program) (modules_of (numbered_program program))

  here : Contains (modules_of program) m
  here = contains_first m _

  main_found : (f : FunName) → text_of m.atoms f.name ≡ codes "main" → f.arity ≡ 0
      → Contains (defined_names m.functions) f → IsBelow (length tops) main
  main_found f is_main no_argument defined =
      found table (renamed table m m.name) (renamed_name table m f)
      (kept_text program m here f.name 109 _
      ((bytes_eq-Decides (text_of m.atoms f.name) (codes "main")).1 is_main))
      no_argument tops (local_infos table (modules_of program))
      (listed_of table (modules_of program) m f (inl refl) defined)

  main_below : IsBelow (length tops) main
  main_below = stable_below (length tops) main (λ missing. accepted _ (no_main refl (none missing)))
    where
      none : (IsBelow (length tops) main → ⊥) → ExportsMain m → ⊥
      none missing (exports_main f exported is_main no_argument) =
          (module_fine (m ∷ modules) accepted m here).sound.exports f exported
          (λ defined. missing (main_found f is_main no_argument defined))

  as_many : length tops ≡ length (trees_of program)
  as_many =
      length_tops table (modules_of program)
      ∙ sym (ap length (trees_take program (module_fine (m ∷ modules) accepted)))
      ∙ length-map (trees_of program) (λ (f : FunctionTree). length f.parameters)

  main_stands : HasItsMain program
  main_stands = by main refl main_below
    where
      by : (o : Option ℕ) → main ≡ o → IsBelow (length tops) o → HasItsMain program
      by (Some k) is below = record {
        main = k;
        is_main = is;
        stands = subst (λ n. k < n) as_many below;
      }
      by None is below = absurd below

pub has_its_main : OfAcceptedModules HasItsMain
has_its_main = main_stands
