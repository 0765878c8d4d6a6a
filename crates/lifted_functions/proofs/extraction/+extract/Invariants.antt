use Rattle.std.proofs.Common.{◌≡◌, fold, map, take}
use Rattle.hy_core.specs.Syntax.{syntax_of}
use Rattle.lifted_functions.specs.code.Extraction.{extracted_by, extracted_clause_by}
use Rattle.lifted_functions.specs.code.Extraction.{extracted_definition_by, state_of}
use Rattle.lifted_functions.proofs.extraction.+extract.Given as goal
use Rattle.letrec_names.specs.Parts.{clause_syntax, function_syntax}

abbrev pub invariant-extract_each-loop-expr : goal.invariant-extract_each-loop-expr
invariant-extract_each-loop-expr l =
    (state_of l.done
    ≡ fold (extracted_by l.tables l.current l.fn.reach) (state_of l.fn.done)
    (map syntax_of (take l.expr-index l.expr-items)))
    × (l.reach ≡ l.fn.reach)

abbrev pub invariant-extract_clauses-loop-clause : goal.invariant-extract_clauses-loop-clause
invariant-extract_clauses-loop-clause l =
    (state_of l.done
    ≡ fold (extracted_clause_by l.tables l.current l.fn.reach) (state_of l.fn.done)
    (map clause_syntax (take l.clause-index l.clause-items)))
    × (l.reach ≡ l.fn.reach)

abbrev pub invariant-extract_functions-loop-function : goal.invariant-extract_functions-loop-function
invariant-extract_functions-loop-function l =
    (state_of l.done
    ≡ fold (extracted_definition_by l.tables l.current l.fn.reach) (state_of l.fn.done)
    (map function_syntax (take l.function-index l.function-items)))
    × (l.reach ≡ l.fn.reach)
