-- Renaming leaves the functions of letrecs where they are.
use Rattle.std.proofs.Common.{◌≡◌, ℕ, suc, ◌+◌, List, [], ◌∷◌, ◌++◌, length, map, replicate}
use Rattle.std.proofs.Common.{refl, sym, ap, ◌∙◌}
use Rattle.std.proofs.lemmas.List.{length-map, map-append}
use Rattle.hy_core.specs.NameFaults.{modules_of}
use Rattle.hy_core.specs.Numbered.{function_count}
use Rattle.hy_core.specs.Scopes.{Scope, with_variables, with_patterns}
use Rattle.hy_core.specs.Syntax as s
use Rattle.hy_core.specs.Syntax.{Syntax, Syntaxes, NoSyntax, MoreSyntax, syntax_of}
use Rattle.hy_core.specs.Syntax.{Clauses, NoClauses, MoreClauses}
use Rattle.hy_core.specs.Syntax.{Definitions, NoDefinitions, MoreDefinitions}
use Rattle.hy_core.proofs.SyntaxLemmas.{syntax_back}
use Rattle.hy_core.specs.declared.tree.Function.{Function}
use Rattle.hy_core.specs.declared.tree.Module.{Module}
use Rattle.hy_core.specs.declared.tree.Program.{Program}
use Rattle.letrec_names.specs.Origins.{function_origins, functions_origins, modules_origins, upwards}
use Rattle.lifted_syntax.specs.LiftedSyntax.{count, count_all, count_clauses, count_definitions}
use Rattle.renaming.specs.RenamedProgram.{renamed_function, renamed_module, renamed_modules}
use Rattle.renaming.specs.RenamedSyntax.{renamed_syntax, renamed_syntaxes, renamed_clauses}
use Rattle.renaming.specs.RenamedSyntax.{renamed_definitions}

module _ (limit : ℕ) where
  mutual
    counts : (e : Syntax) (scope : Scope) → count (renamed_syntax limit scope e) ≡ count e
    counts (s.Tuple site es) scope = all_counts es scope
    counts (s.ListOf site es e) scope = λ i. all_counts es scope i + counts e scope i
    counts (s.Values es) scope = all_counts es scope
    counts (s.Let xs e b) scope = λ i. counts e scope i + counts b (with_variables scope xs) i
    counts (s.Do e b) scope = λ i. counts e scope i + counts b scope i
    counts (s.Case e cs) scope = λ i. counts e scope i + clauses_counts cs scope i
    counts (s.Letrec fs e) scope = λ i. definitions_counts fs scope i + counts e scope i
    counts (s.Apply e es) scope = all_counts es scope
    counts (s.Call m f es) scope = all_counts es scope
    counts (s.Primop a es) scope = all_counts es scope
    counts (s.Receive cs t e) scope = λ i. clauses_counts cs scope i + counts e scope i
    counts (s.Try e xs b ys c) scope = counts e scope
    counts _ scope = refl

    all_counts : (es : Syntaxes) (scope : Scope)
        → count_all (renamed_syntaxes limit scope es) ≡ count_all es
    all_counts NoSyntax scope = refl
    all_counts (MoreSyntax e es) scope = λ i. counts e scope i + all_counts es scope i

    clauses_counts : (cs : Clauses) (scope : Scope)
        → count_clauses (renamed_clauses limit scope cs) ≡ count_clauses cs
    clauses_counts NoClauses scope = refl
    clauses_counts (MoreClauses ps g b cs) scope =
        let inside = with_patterns scope ps in
        λ i. counts g inside i + (counts b inside i + clauses_counts cs scope i)

    definitions_counts : (fs : Definitions) (scope : Scope)
        → count_definitions (renamed_definitions limit scope fs) ≡ count_definitions fs
    definitions_counts NoDefinitions scope = refl
    definitions_counts (MoreDefinitions f xs b fs) scope =
        λ i. suc (counts b (with_variables scope xs) i + definitions_counts fs scope i)

  body_counts : (f : Function)
      → count (syntax_of (renamed_function limit f).body) ≡ count (syntax_of f.body)
  body_counts f =
      let inside = with_variables [] f.params in
      ap count (syntax_back (renamed_syntax limit inside (syntax_of f.body)))
      ∙ counts (syntax_of f.body) inside

  functions_same : (k : ℕ) (fs : List Function)
      → functions_origins k (map (renamed_function limit) fs) ≡ functions_origins k fs
  functions_same k [] = refl
  functions_same k (f ∷ fs) =
      λ i. replicate (body_counts f i) k ++ functions_same (suc k) fs i

  modules_same : (k : ℕ) (ms : List Module)
      → modules_origins k (map (renamed_module limit) ms) ≡ modules_origins k ms
  modules_same k [] = refl
  modules_same k (m ∷ ms) =
      λ i. functions_same k m.functions i
      ++ (ap (λ n. modules_origins (k + n) (map (renamed_module limit) ms))
      (length-map m.functions (renamed_function limit))
      ∙ modules_same (k + length m.functions) ms) i

  many_same : (ms : List Module) → function_count (map (renamed_module limit) ms) ≡ function_count ms
  many_same [] = refl
  many_same (m ∷ ms) =
      λ i. length-map m.functions (renamed_function limit) i + many_same ms i

  -- the origins in a program stay
  pub origins_same : (program : Program)
      → function_origins (modules_of (renamed_modules limit program))
      ≡ function_origins (modules_of program)
  origins_same program =
      let ms = modules_of program in
      ap function_origins (sym (map-append (renamed_module limit) program.given program.prelude))
      ∙ (λ i. upwards 0 (many_same ms i) ++ modules_same 0 ms i)
