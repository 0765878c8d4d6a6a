-- The functions of letrecs as the code extracts them: each goes behind those that are lifted so
-- far.
use Rattle.std.specs.Prelude.{ℕ, suc, List, [], ◌∷◌, ◌++◌}
use Rattle.hy_core.specs.Syntax as s
use Rattle.hy_core.specs.Syntax.{Syntax, Syntaxes, NoSyntax, MoreSyntax}
use Rattle.hy_core.specs.Syntax.{Clauses, NoClauses, MoreClauses, ClauseSyntax}
use Rattle.hy_core.specs.Syntax.{Definitions, NoDefinitions, MoreDefinitions, DefinitionSyntax}
use Rattle.letrec_names.specs.NestedCounts.{numbered}
use Rattle.lifted_functions.specs.Texts.{texts}
use Rattle.lifted_functions.specs.code.CapturedLists.{captured_at}
use Rattle.lifted_functions.specs.code.Lifting.{lifted_by}
use Rattle.lifted_functions.specs.declared.extraction.Extracted.{Extracted}
use Rattle.lifted_functions.specs.declared.tables.Tables.{Tables}
use Rattle.lifted_program.specs.LetrecNumbers.{Reach}
use Rattle.lifted_syntax.specs.ExtractedSyntax.{FunctionSyntax}

-- the functions that are lifted so far, and the number of the next function of a letrec
pub record State : Type 0 where
  pub done : List FunctionSyntax
  pub next : ℕ

abbrev pub state_of : Extracted → State
state_of e = record { done = texts e.texts; next = e.next }

module _ (t : Tables) (current : ℕ) where
  -- with a function of a letrec, without those in it
  abbrev pub with_function : Reach → State → (parameters : List ℕ) → (body : Syntax) → State
  with_function reach st xs b =
      let this : FunctionSyntax = record {
        parameters = captured_at t.captured st.next ++ xs;
        body = lifted_by t current reach (suc st.next) b;
      } in
      record { done = st.done ++ this ∷ []; next = suc st.next }

  abbrev pub with_definition : Reach → State → DefinitionSyntax → State
  with_definition reach st f = with_function reach st f.parameters f.body

  abbrev mutual
    pub extracted_by : Reach → State → Syntax → State
    extracted_by reach st (s.Tuple site es) = extracted_all_by reach st es
    extracted_by reach st (s.ListOf site es e) =
        extracted_by reach (extracted_all_by reach st es) e
    extracted_by reach st (s.Values es) = extracted_all_by reach st es
    extracted_by reach st (s.Let xs e b) = extracted_by reach (extracted_by reach st e) b
    extracted_by reach st (s.Do e b) = extracted_by reach (extracted_by reach st e) b
    extracted_by reach st (s.Case e cs) = extracted_clauses_by reach (extracted_by reach st e) cs
    extracted_by reach st (s.Letrec fs e) =
        let inside = numbered t.counts st.next fs ++ reach in
        extracted_by inside (extracted_functions_by inside st fs) e
    extracted_by reach st (s.Apply e es) = extracted_all_by reach st es
    extracted_by reach st (s.Call m f es) = extracted_all_by reach st es
    extracted_by reach st (s.Primop a es) = extracted_all_by reach st es
    extracted_by reach st (s.Receive cs time e) =
        extracted_by reach (extracted_clauses_by reach st cs) e
    extracted_by reach st (s.Try e xs b ys c) = extracted_by reach st e
    extracted_by reach st _ = st

    pub extracted_all_by : Reach → State → Syntaxes → State
    extracted_all_by reach st NoSyntax = st
    extracted_all_by reach st (MoreSyntax e es) =
        extracted_all_by reach (extracted_by reach st e) es

    pub extracted_clauses_by : Reach → State → Clauses → State
    extracted_clauses_by reach st NoClauses = st
    extracted_clauses_by reach st (MoreClauses ps g b cs) =
        extracted_clauses_by reach (extracted_by reach (extracted_by reach st g) b) cs

    pub extracted_functions_by : Reach → State → Definitions → State
    extracted_functions_by reach st NoDefinitions = st
    extracted_functions_by reach st (MoreDefinitions f xs b fs) =
        extracted_functions_by reach (extracted_by reach (with_function reach st xs b) b) fs

  abbrev pub extracted_clause_by : Reach → State → ClauseSyntax → State
  extracted_clause_by reach st c = extracted_by reach (extracted_by reach st c.guard) c.body

  abbrev pub extracted_definition_by : Reach → State → DefinitionSyntax → State
  extracted_definition_by reach st f = extracted_by reach (with_definition reach st f) f.body
