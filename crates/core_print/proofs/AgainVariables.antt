-- Names and variables are read again from their canonical tokens.
use Rattle.std.proofs.Common.{ℕ, List, [], ◌∷◌, ◌++◌, map, refl, sym, ap}
use Rattle.hy_core.specs.Marks.{Marked, plain, symbol}
use Rattle.hy_core.specs.Patterns as pats
use Rattle.hy_core.specs.Patterns.{IsVariable, AreVariables, AreMoreVariables, BindsValues, IsAliased}
use Rattle.hy_core.specs.Canonical.{token, after_commas, variable_text, variables_text, binding_text}
use Rattle.hy_core.specs.declared.token.Symbol.{Symbol}
use Rattle.hy_core.specs.declared.token.Symbol.TheVariants as w
use Rattle.hy_core.specs.declared.token.Token.TheVariants as t
use Rattle.hy_core.specs.declared.tables.Tables.{Tables}
use Rattle.hy_core.specs.declared.tree.Module.{Module}
use Rattle.core_print.proofs.Spelling.{symbol_text, AreFine}
use Rattle.core_print.proofs.Tables.{Keeps, before_variable, variable_kept}
use Rattle.core_print.proofs.AgainPieces.{one, one_symbol, opened, ◌▷◌, same_text, first_part, next_part}
use Rattle.core_print.proofs.AgainLeft.{variable_left}
use Rattle.core_print.proofs.AgainStarts.{IsItem}
use Rattle.core_print.proofs.AgainParts.{Again, again_no_deeper}

module _ {z : Module} where
  variable_again : {n : ℕ} {s u : Tables} {ms q : List Marked} {v : ℕ} → IsVariable n s ms v u q → Keeps u z → AreFine ms → Again n z s (variable_text z v) (λ k ms r. IsVariable k s ms v u r)
  variable_again {s = s} (pats.variable name) keeps f = record {
    piece = same_text (ap token (sym (variable_kept s name keeps))) (one (plain (t.Variable name)) f.0);
    reads = λ k r. pats.variable name;
    keeps = before_variable s name keeps;
  }
  variable_again (pats.noted d end) keeps f = again_no_deeper (variable_again d keeps f.1)

  more_variables_again : {n : ℕ} {close : Symbol} {s u : Tables} {ms q : List Marked} {vs : List ℕ} → AreMoreVariables n close s ms vs u q → Keeps u z → AreFine ms
      → Again n z s (after_commas (map (variable_text z) vs) ++ token (symbol_text close)) (λ k ms r. AreMoreVariables k close s ms vs u r)
  more_variables_again {close = close} pats.no_more keeps f = record { piece = one_symbol close; reads = λ k r. pats.no_more; keeps = keeps }
  more_variables_again {close = close} (pats.one_more {vs = vs} d more) keeps f =
      let b = more_variables_again more keeps (variable_left d f.1) in
      let a = variable_again d b.keeps f.1 in
      record {
        piece = next_part (map (variable_text z) vs) (token (symbol_text close)) a.piece b.piece;
        reads = λ k r. pats.one_more (a.reads k (b.piece.front k r)) (b.reads k r);
        keeps = a.keeps;
      }

  pub variables_again : {n : ℕ} {close : Symbol} {s u : Tables} {ms q : List Marked} {vs : List ℕ} → AreVariables n close s ms vs u q → Keeps u z → AreFine ms
      → Again n z s (variables_text z vs ++ token (symbol_text close)) (λ k ms r. AreVariables k close s ms vs u r)
  variables_again {close = close} pats.none keeps f = record { piece = one_symbol close; reads = λ k r. pats.none; keeps = keeps }
  variables_again {close = close} (pats.some {vs = vs} d more) keeps f =
      let b = more_variables_again more keeps (variable_left d f) in
      let a = variable_again d b.keeps f in
      record {
        piece = first_part (map (variable_text z) vs) (token (symbol_text close)) a.piece b.piece;
        reads = λ k r. pats.some (a.reads k (b.piece.front k r)) (b.reads k r);
        keeps = a.keeps;
      }

  -- between < and >, one alone too
  pub binding_again : {n : ℕ} {s u : Tables} {ms q : List Marked} {vs : List ℕ} → BindsValues n s ms vs u q → Keeps u z → AreFine ms → Again n z s (binding_text z vs) (λ k ms r. BindsValues k s ms vs u r)
  binding_again (pats.one {v = v} d) keeps f =
      let a = variable_again d keeps f in
      record {
        piece = one_symbol w.Less ▷ first_part [] (token (symbol_text w.Greater)) a.piece (one_symbol w.Greater);
        reads = λ k r. pats.many (pats.some (a.reads k (symbol w.Greater ∷ r)) pats.no_more);
        keeps = a.keeps;
      }
  binding_again (pats.many d) keeps f =
      let a = variables_again d keeps f.1 in record { piece = one_symbol w.Less ▷ a.piece; reads = λ k r. pats.many (a.reads k r); keeps = a.keeps }

  pub aliased_again : {n : ℕ} {s u : Tables} {ms q : List Marked} {v : ℕ} → IsAliased n s ms v u q → Keeps u z → AreFine ms
      → Again n z s (variable_text z v) (λ k ms r. IsItem ms × IsAliased k s ms v u r)
  aliased_again {s = s} (pats.variable name) keeps f = record {
    piece = same_text (ap token (sym (variable_kept s name keeps))) (opened (t.Variable name) f.0);
    reads = λ k r. (refl, pats.variable name);
    keeps = before_variable s name keeps;
  }
  aliased_again (pats.noted d end) keeps f = again_no_deeper (aliased_again d keeps f.1)
