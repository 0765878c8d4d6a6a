-- The functions that a program's calls name have numbers, and take as many arguments as they are given.
use Rattle.std.proofs.Common.{◌≡◌, ◌==◌, ◌&&◌, ◌||◌, if◌then◌else◌, ℕ, true, false, true≢false, Bool, List, [], ◌∷◌, ◌++◌, length, map, Option, Some, None, slice_get, unwrap_or, refl, sym, ap, ◌∙◌, subst, ◌⊎◌, inl, inr, eq-eqb, eqb-true}
use Rattle.std.proofs.lemmas.Bool.{and_parts}
use Rattle.std.specs.List.{Contains}
use Rattle.hy_terms.specs.Naming.{one_on, place_in, text_of}
use Rattle.hy_core.specs.NameFaults.{IsExported, modules_of}
use Rattle.hy_core.specs.Nodes.{names_of}
use Rattle.hy_core.specs.Resolve.{function_number, is_local, name_with}
use Rattle.hy_core.specs.Resolved.{is_name}
use Rattle.hy_core.specs.Tables.{info_of, local_infos, program_atoms, program_functions, renamed, renamed_name, top_infos}
use Rattle.hy_core.specs.declared.info.FunInfo.{FunInfo}
use Rattle.hy_core.specs.declared.tree.FunName.{FunName}
use Rattle.hy_core.specs.declared.tree.Function.{Function}
use Rattle.hy_core.specs.declared.tree.Module.{Module}
use Rattle.hy_core.specs.declared.tree.Program.{Program}
use Rattle.core_accepted.proofs.Membership.{InAny, in_any}
use Rattle.core_accepted.proofs.ProgramTexts.{kept_text, same_operation}
use Rattle.core_accepted.proofs.ResolvedKnown.{Found, NamesAgree}
use Rattle.core_accepted.proofs.Shapes.{stable_nat}

-- how many arguments the functions of modules take
abbrev pub module_arities : List Module → List ℕ
module_arities [] = []
module_arities (m ∷ ms) = map (λ f. length f.params) m.functions ++ module_arities ms

-- a function of the list has this module and name
abbrev pub Listed : ℕ → FunName → List FunInfo → Type 0
Listed mm ff [] = ⊥
Listed mm ff (i ∷ is) = ((i.module ≡ mm) × (i.name ≡ ff)) ⊎ Listed mm ff is

-- each function of the list takes as many arguments as its name says
abbrev AreFit : List FunInfo → List ℕ → Type 0
AreFit [] [] = Unit {0}
AreFit [] (a ∷ ns) = ⊥
AreFit (i ∷ is) [] = ⊥
AreFit (i ∷ is) (a ∷ ns) = (a ≡ i.name.arity) × AreFit is ns

is_name_same : (f : FunName) → is_name f f ≡ true
is_name_same f = λ i. eq-eqb f.name f.name refl i && eq-eqb f.arity f.arity refl i

find : (is more : List FunInfo) (ns : List ℕ) (mm : ℕ) (ff : FunName) → AreFit is ns → Listed mm ff is → Found ns (function_number (is ++ more) mm ff) ff.arity
find [] more ns mm ff fit listed = absurd listed
find (i ∷ is) more [] mm ff fit listed = absurd fit
find (i ∷ is) more (a ∷ ns) mm ff fit listed = by ((i.module == mm) && is_name i.name ff) refl (λ later. find is more ns mm ff fit.1 later)
  where
    past : (o : Option ℕ) → Found ns o ff.arity → Found (a ∷ ns) (one_on o) ff.arity
    past (Some k) h = h
    past None h = h

    others : (((i.module == mm) && is_name i.name ff) ≡ false) → Listed mm ff is
    others no_match = here listed
      where
        here : ((i.module ≡ mm) × (i.name ≡ ff)) ⊎ Listed mm ff is → Listed mm ff is
        here (inl same) = absurd (true≢false (sym (λ j. eq-eqb i.module mm same.0 j && (ap (λ f. is_name i.name f) (sym same.1) ∙ is_name_same i.name) j) ∙ no_match))
        here (inr later) = later

    by : (b : Bool) → ((i.module == mm) && is_name i.name ff) ≡ b → (Listed mm ff is → Found ns (function_number (is ++ more) mm ff) ff.arity)
        → Found (a ∷ ns) (if b then Some 0 else one_on (function_number (is ++ more) mm ff)) ff.arity
    by true e later =
        let name = (and_parts (i.module == mm) (is_name i.name ff) e).1 in
        let arity = eqb-true i.name.arity ff.arity (and_parts (i.name.name == ff.name) (i.name.arity == ff.arity) name).1 in
        ap Some (fit.0 ∙ arity)
    by false e later = past (function_number (is ++ more) mm ff) (later (others e))

module _ (table : List (List ℕ)) where
  -- the functions of a module among others

  listed_left : (is ks : List FunInfo) (mm : ℕ) (ff : FunName) → Listed mm ff is → Listed mm ff (is ++ ks)
  listed_left [] ks mm ff h = absurd h
  listed_left (i ∷ is) ks mm ff (inl h) = inl h
  listed_left (i ∷ is) ks mm ff (inr h) = inr (listed_left is ks mm ff h)

  listed_right : (is ks : List FunInfo) (mm : ℕ) (ff : FunName) → Listed mm ff ks → Listed mm ff (is ++ ks)
  listed_right [] ks mm ff h = h
  listed_right (i ∷ is) ks mm ff h = inr (listed_right is ks mm ff h)

  listed_in : (m : Module) (fs : List Function) (f : FunName) → InAny f (names_of fs) → Listed (renamed table m m.name) (renamed_name table m f) (map (info_of table m) fs)
  listed_in m [] f h = absurd h
  listed_in m (g ∷ fs) f (inl is) = inl (refl, ap (renamed_name table m) is)
  listed_in m (g ∷ fs) f (inr h) = inr (listed_in m fs f h)

  pub listed_of : (ms : List Module) (m : Module) (f : FunName) → InAny m ms → Contains (names_of m.functions) f → Listed (renamed table m m.name) (renamed_name table m f) (top_infos table ms)
  listed_of [] m f within h = absurd within
  listed_of (n ∷ ms) m f (inl is) h =
      listed_left (map (info_of table n) n.functions) (top_infos table ms) _ _
      (subst (λ k. Listed (renamed table m m.name) (renamed_name table m f) (map (info_of table k) k.functions)) (sym is) (listed_in m m.functions f (in_any (names_of m.functions) f h)))
  listed_of (n ∷ ms) m f (inr later) h = listed_right (map (info_of table n) n.functions) (top_infos table ms) _ _ (listed_of ms m f later h)

  fit_append : (is ks : List FunInfo) (ns bs : List ℕ) → AreFit is ns → AreFit ks bs → AreFit (is ++ ks) (ns ++ bs)
  fit_append [] ks [] bs h k = k
  fit_append [] ks (a ∷ ns) bs h k = absurd h
  fit_append (i ∷ is) ks [] bs h k = absurd h
  fit_append (i ∷ is) ks (a ∷ ns) bs h k = (h.0, fit_append is ks ns bs h.1 k)

  abbrev Fit : List Function → Type 0
  Fit fs = (f : Function) → InAny f fs → length f.params ≡ f.name.arity

  fit_in : (m : Module) (fs : List Function) → Fit fs → AreFit (map (info_of table m) fs) (map (λ f. length f.params) fs)
  fit_in m [] h = tt
  fit_in m (f ∷ fs) h = (h f (inl refl), fit_in m fs (λ g within. h g (inr within)))

  fit_of : (ms : List Module) → ((m : Module) → InAny m ms → Fit m.functions) → AreFit (top_infos table ms) (module_arities ms)
  fit_of [] h = tt
  fit_of (m ∷ ms) h =
      fit_append (map (info_of table m) m.functions) (top_infos table ms) (map (λ f. length f.params) m.functions) (module_arities ms)
      (fit_in m m.functions (h m (inl refl))) (fit_of ms (λ n within. h n (inr within)))

-- what is known of a module of a program
pub record IsSound (program : Program) (m : Module) : Type 0 where
  pub exports : (f : FunName) → Contains m.exports f → (Contains (names_of m.functions) f → ⊥) → ⊥
  pub fit : (f : Function) → InAny f m.functions → length f.params ≡ f.name.arity

-- what is found or not is decided

stable_option : (o : Option ℕ) (n : ℕ) → ((o ≡ Some n → ⊥) → ⊥) → o ≡ Some n
stable_option None n h = absurd (h (λ e. cc))
stable_option (Some k) n h = ap Some (stable_nat k n (λ other. h (λ e. other cc)))

stable_found : (arities : List ℕ) (o : Option ℕ) (n : ℕ) → ((Found arities o n → ⊥) → ⊥) → Found arities o n
stable_found arities None n h = h (λ x. x)
stable_found arities (Some k) n h = stable_option (slice_get arities k) n h

module _ (program : Program) (sound : (m : Module) → InAny m (modules_of program) → IsSound program m) where
  abbrev table_of : List (List ℕ)
  table_of = program_atoms program

  abbrev pub arities : List ℕ
  arities = module_arities (modules_of program)

  find_in : (m : Module) (f : FunName) → InAny m (modules_of program) → Contains (names_of m.functions) f
      → Found arities (function_number (program_functions program) (renamed table_of m m.name) (renamed_name table_of m f)) f.arity
  find_in m f within h =
      find (top_infos table_of (modules_of program)) (local_infos table_of (modules_of program)) arities _ _
      (fit_of table_of (modules_of program) (λ n here. (sound n here).fit)) (listed_of table_of (modules_of program) m f within h)

  exported : (m : Module) (a b n : ℕ) → IsExported program (text_of m.atoms a) (text_of m.atoms b) n
      → (Found arities (function_number (program_functions program) (renamed table_of m a) (name_with (renamed table_of m b) n)) n → ⊥) → ⊥
  exported m a b n e missing =
      let within = in_any (modules_of program) e.m e.stands in
      let of_module : renamed table_of e.m e.m.name ≡ renamed table_of m a = ap (λ t. unwrap_or (place_in table_of t) 0) e.same_module in
      let of_name : renamed table_of e.m e.f.name ≡ renamed table_of m b = ap (λ t. unwrap_or (place_in table_of t) 0) e.same_name in
      (sound e.m within).exports e.f e.exports (λ defined. missing
      (subst (λ k. Found arities (function_number (program_functions program) (renamed table_of m a) (name_with (renamed table_of m b) k)) k) e.same_arity
      (subst (λ x. Found arities (function_number (program_functions program) (renamed table_of m a) (name_with x e.f.arity)) e.f.arity) of_name
      (subst (λ x. Found arities (function_number (program_functions program) x (renamed_name table_of e.m e.f)) e.f.arity) of_module (find_in e.m e.f within defined)))))

  pub names_agree : (m : Module) → (within : Contains (modules_of program) m) → NamesAgree program m arities
  names_agree m within = record {
    texts = kept_text program m within;
    operations = same_operation program m within;
    called = λ a b n may. stable_found arities _ n (λ missing. may (λ e. exported m a b n e missing));
    applied = λ f defined. stable_found arities _ f.arity (λ missing. defined (λ here. missing (find_in m f (in_any (modules_of program) m within) here)));
    around = λ f locals here. around f locals (in_any locals f here);
  }
    where
      around : (f : FunName) (locals : List FunName) → InAny f locals → is_local (renamed_name table_of m f) (map (renamed_name table_of m) locals) ≡ true
      around f [] h = absurd h
      around f (g ∷ locals) (inl is) = ap (λ h. is_name (renamed_name table_of m h) (renamed_name table_of m f) || is_local (renamed_name table_of m f) (map (renamed_name table_of m) locals)) is
          ∙ ap (λ b. b || is_local (renamed_name table_of m f) (map (renamed_name table_of m) locals)) (is_name_same (renamed_name table_of m f))
      around f (g ∷ locals) (inr h) = later (is_name (renamed_name table_of m g) (renamed_name table_of m f)) _ (around f locals h)
        where
          later : (v w : Bool) → w ≡ true → (v || w) ≡ true
          later true w h = refl
          later false w h = h
