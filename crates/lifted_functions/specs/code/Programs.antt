-- The functions of modules, and those of their letrecs, as the code puts them behind each other.
use Rattle.std.specs.Prelude.{ℕ, [], ◌∷◌, ◌++◌, fold}
use Rattle.hy_core.specs.Syntax.{syntax_of}
use Rattle.hy_core.specs.declared.tree.Function.{Function}
use Rattle.hy_core.specs.declared.tree.Module.{Module}
use Rattle.lifted_functions.specs.code.Extraction.{State, extracted_by}
use Rattle.lifted_functions.specs.code.Lifting.{lifted_by, next_by}
use Rattle.lifted_functions.specs.declared.tables.Tables.{Tables}
use Rattle.lifted_syntax.specs.ExtractedSyntax.{FunctionSyntax}

module _ (t : Tables) where
  -- with a function of a module
  abbrev pub with_top : (current : ℕ) → State → Function → State
  with_top current st f =
      let this : FunctionSyntax = record {
        parameters = f.params;
        body = lifted_by t current [] st.next (syntax_of f.body);
      } in
      record { done = st.done ++ this ∷ []; next = next_by t.counts st.next (syntax_of f.body) }

  abbrev pub with_tops : State → Module → State
  with_tops st m = fold (with_top m.name) st m.functions

  -- with the functions of its letrecs
  abbrev pub extracted_from : (current : ℕ) → State → Function → State
  extracted_from current st f = extracted_by t current [] st (syntax_of f.body)

  abbrev pub with_extracted : State → Module → State
  with_extracted st m = fold (extracted_from m.name) st m.functions
