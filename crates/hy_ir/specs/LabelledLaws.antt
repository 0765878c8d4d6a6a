-- The labelled meaning of built-ins is that on terms, with the labels dropped. Each law is the
-- clause of a function in the module `laws`.
use Rattle.std.specs.Prelude.{◌≡◌, ℕ, List, map}
use Rattle.std.specs.Option.{option_map}
use Rattle.hy_terms.specs.Labelled.{Labelled, erase}
use Rattle.hy_terms.specs.Term as bare
use Rattle.hy_core.specs.declared.bif.Bif.{Bif}
use Rattle.hy_core.specs.BuiltIn as built_in
use Rattle.hy_core.specs.Evaluation as evaluation
use Rattle.hy_ir.specs.LabelledBuiltIns.{LabelledAnswer, Value, Raises, NoAnswer, fail_reason}
use Rattle.hy_ir.specs.LabelledBuiltIns.{labelled_answer, with_element}

abbrev pub erase_answer : LabelledAnswer → built_in.Answer
erase_answer (Value t) = built_in.Value (erase t)
erase_answer (Raises class reason) = built_in.Raises class (erase reason)
erase_answer NoAnswer = built_in.NoAnswer

abbrev pub erase_parts : List Labelled → bare.Term
erase_parts ts = bare.Tuple (bare.terms_of (map erase ts))

pub record BuiltInsAreOnTerms : Type 0 where
  pub answers : (atoms : List (List ℕ)) (pid : ℕ) (bif : Bif) (ts : List Labelled)
      → erase_answer (labelled_answer atoms pid bif ts)
      ≡ built_in.answer atoms pid bif (map erase ts)
  pub setelement : (index tuple value : Labelled)
      → option_map erase_parts (with_element index tuple value)
      ≡ built_in.with_element (erase index) (erase tuple) (erase value)
  pub fail : (t : Labelled) → erase (fail_reason t) ≡ evaluation.fail_reason (erase t)
