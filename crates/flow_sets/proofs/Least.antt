-- The sets of the analysis are closed, and contained in every closed family.
use Rattle.std.specs.Prelude.{ℕ}
use Rattle.flow_sets.specs.Least.{Flows, itself, along, by_field, by_any, by_each, IsClosed, Closes}
use Rattle.flow_sets.specs.declared.inclusion.FlowSet.{FlowSet}
use Rattle.flow_sets.specs.declared.inclusion.Inclusion.{Inclusion}
use Rattle.flow_sets.specs.declared.inclusion.Inclusion.TheVariants.{Whole, Part, Parts}

closes-Flows : (given : Inclusion → Type 0) (i : Inclusion) → given i → Closes (Flows given) i
closes-Flows given (Whole from to) g = λ s d. along g d
closes-Flows given (Part base field to) g = λ s t d. (λ e. by_field g d e, λ e. by_any g d e)
closes-Flows given (Parts base to) g = λ s field t d e. by_each g d e

pub is_closed-Flows : (given : Inclusion → Type 0) → IsClosed given (Flows given)
is_closed-Flows given = record { itself = λ s. itself; closes = closes-Flows given }

pub Flows-least : (given : Inclusion → Type 0) (F : FlowSet → ℕ → Type 0) → IsClosed given F
    → {X : FlowSet} {s : ℕ} → Flows given X s → F X s
Flows-least given F c (itself {s}) = c.itself s
Flows-least given F c (along {from} {to} {s} g d) =
    c.closes (Whole from to) g s (Flows-least given F c d)
Flows-least given F c (by_field {base} {to} {field} {s} {t} g d e) =
    (c.closes (Part base field to) g s t (Flows-least given F c d)).0 (Flows-least given F c e)
Flows-least given F c (by_any {base} {to} {field} {s} {t} g d e) =
    (c.closes (Part base field to) g s t (Flows-least given F c d)).1 (Flows-least given F c e)
Flows-least given F c (by_each {base} {to} {field} {s} {t} g d e) =
    c.closes (Parts base to) g s field t (Flows-least given F c d) (Flows-least given F c e)
