-- The functions of a program whose trees are renamed are those of the renamed program.
use Rattle.std.proofs.Common.{◌≡◌, ℕ, false, List, [], ◌∷◌, ◌++◌, map, refl, sym, ap, ◌∙◌}
use Rattle.std.proofs.lemmas.List.{map-append}
use Rattle.hy_core.specs.NameFaults.{modules_of}
use Rattle.hy_core.specs.ProgramTrees.{function_trees, functions_from, modules_from, resolved}
use Rattle.hy_core.specs.ProgramTrees.{supply_of, are_events, true_places}
use Rattle.hy_core.specs.Nodes.{nodes, Context}
use Rattle.hy_core.specs.Resolve.{Names, resolve}
use Rattle.hy_core.specs.Resolved.{Expression, FunctionTree}
use Rattle.hy_core.specs.Scopes.{Scope, with_variables}
use Rattle.hy_core.specs.Supplied.{Supply, behind, supplied}
use Rattle.hy_core.specs.Syntax.{DefinitionSyntax, syntax_of, tree}
use Rattle.hy_core.specs.declared.place.Place.TheVariants.{Anywhere}
use Rattle.hy_core.specs.declared.tree.Expr.{Expr}
use Rattle.hy_core.specs.declared.tree.Function.{Function}
use Rattle.hy_core.specs.declared.tree.Module.{Module}
use Rattle.hy_core.specs.declared.tree.Program.{Program}
use Rattle.hy_core.proofs.EventNodes.{events_are}
use Rattle.hy_core.proofs.SyntaxLemmas.{syntax_back, comes_back}
use Rattle.lifted_program.specs.Renaming.{names_for, renamed, renamed_program}
use Rattle.lifted_program.specs.Renaming.{renamed_function as renamed_tree}
use Rattle.renaming.specs.RenamedProgram.{renamed_function, renamed_module, renamed_modules}
use Rattle.renaming.specs.RenamedSyntax.{function_syntax, renamed_definition, renamed_syntax}
use Rattle.renaming.proofs.RenamedEvents.{events-renamed}
use Rattle.renaming.proofs.RenamedResolved.{resolved-renamed}
use Rattle.renaming.proofs.RenamedSupplied.{behind-renamed, supplied-renamed}

module _ (limit : ℕ) (names : Names) where
  -- the event nodes of a body
  abbrev places : Expr → Context → List ℕ
  places x c = true_places 0 (are_events names.atoms (nodes x c))

  places-renamed : (s : Scope) (x : Expr) (c d : Context)
      → places (tree (renamed_syntax limit s (syntax_of x))) c ≡ places x d
  places-renamed s x c d =
      ap (true_places 0) (events_are names.atoms (renamed_syntax limit s (syntax_of x)) c
      ∙ events-renamed limit names.atoms s (syntax_of x)
      ∙ sym (events_are names.atoms (syntax_of x) d))
      ∙ ap (λ x. places x d) (comes_back x)

  -- the context of a function's body
  abbrev context_of : List ℕ → Context
  context_of xs = record {
    scope = xs;
    locals = [];
    needs = 1;
    in_guard = false;
    place = Anywhere;
  }

  -- a function, and those behind it
  abbrev Trees : Type 0
  Trees = List FunctionTree × List ℕ

  abbrev first_of_all : (parameters : List ℕ) → Expression → Supply → (List ℕ → Trees) → Trees
  first_of_all xs body supply others =
      let after = others (behind body supply).sites in
      (record { parameters = xs; body = supplied body supply } ∷ after.0, after.1)

  abbrev trees_renamed : Trees → Trees
  trees_renamed these = (map (renamed_tree limit []) these.0, these.1)

  functions-renamed : (current : ℕ) (sites : List ℕ) (fs : List Function)
      → functions_from names current sites (map (renamed_function limit) fs)
      ≡ trees_renamed (functions_from names current sites fs)
  functions-renamed current sites [] = refl
  functions-renamed current sites (f ∷ fs) =
      let s = with_variables [] f.params in
      let ys = names_for limit [] f.params in
      let body = resolved names current f in
      let supply = supply_of names.atoms f sites in
      let later = λ (sites : List ℕ). functions_from names current sites
      (map (renamed_function limit) fs) in
      let is_body : resolved names current (renamed_function limit f) ≡ renamed limit s body =
      ap (λ e. resolve names current e []) (syntax_back (renamed_syntax limit s (syntax_of f.body)))
      ∙ resolved-renamed limit names current s (syntax_of f.body) [] in
      let is_supply : supply_of names.atoms (renamed_function limit f) sites ≡ supply =
      λ i. record {
        events = places-renamed s f.body (context_of ys) (context_of f.params) i;
        sites = sites;
      } in
      let rest = (behind body supply).sites in
      (λ i. first_of_all ys (is_body i) (is_supply i) later)
      ∙ (λ i. (
        record { parameters = ys; body = supplied-renamed limit s body supply i }
            ∷ (later (behind-renamed limit s body supply i).sites).0,
        (later (behind-renamed limit s body supply i).sites).1,
      ))
      ∙ ap (λ (after : Trees). (
        record { parameters = ys; body = renamed limit s (supplied body supply) } ∷ after.0,
        after.1,
      )) (functions-renamed current rest fs)

  modules-renamed : (sites : List ℕ) (ms : List Module)
      → modules_from names sites (map (renamed_module limit) ms)
      ≡ renamed_program limit (modules_from names sites ms)
  modules-renamed sites [] = refl
  modules-renamed sites (m ∷ ms) =
      let these = functions_from names m.name sites m.functions in
      ap (λ (these : Trees). these.0 ++ modules_from names these.1 (map (renamed_module limit) ms))
      (functions-renamed m.name sites m.functions)
      ∙ ap (λ others. map (renamed_tree limit []) these.0 ++ others) (modules-renamed these.1 ms)
      ∙ sym (map-append (renamed_tree limit []) these.0 (modules_from names these.1 ms))

  pub trees-renamed : (sites : List ℕ) (program : Program)
      → function_trees names sites (modules_of (renamed_modules limit program))
      ≡ renamed_program limit (function_trees names sites (modules_of program))
  trees-renamed sites program =
      ap (modules_from names sites)
      (sym (map-append (renamed_module limit) program.given program.prelude))
      ∙ modules-renamed sites (modules_of program)

-- functions by their syntax
abbrev function_of : DefinitionSyntax → Function
function_of f = record { name = f.name; params = f.parameters; body = tree f.body }

functions_back : (fs : List Function) → map function_of (map function_syntax fs) ≡ fs
functions_back [] = refl
functions_back (f ∷ fs) =
    λ i. record { name = f.name; params = f.params; body = comes_back f.body i }
    ∷ functions_back fs i

pub functions-made : (limit : ℕ) (fs gs : List Function)
    → map function_syntax gs ≡ map (renamed_definition limit []) (map function_syntax fs)
    → gs ≡ map (renamed_function limit) fs
functions-made limit fs gs h =
    sym (functions_back gs) ∙ ap (map function_of) h ∙ each fs
  where
    each : (fs : List Function)
        → map function_of (map (renamed_definition limit []) (map function_syntax fs))
        ≡ map (renamed_function limit) fs
    each [] = refl
    each (f ∷ fs) = ap (◌∷◌ (renamed_function limit f)) (each fs)
