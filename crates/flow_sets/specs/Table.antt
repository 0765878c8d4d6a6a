-- Which sites are in which set by a table.
use Rattle.std.specs.Prelude.{ℕ, ◌==◌, Bool, false, ◌&&◌}
use Rattle.std.specs.List.{list_any}
use Rattle.flow_sets.specs.declared.inclusion.FlowSet.{FlowSet}
use Rattle.flow_sets.specs.declared.inclusion.FlowSet.TheVariants.{Only, Register, Result, Field}
use Rattle.flow_sets.specs.declared.inclusion.FlowSet.TheVariants.{Message, Sent}
use Rattle.flow_sets.specs.declared.table.FieldSite.{FieldSite}
use Rattle.flow_sets.specs.declared.table.FlowTable.{FlowTable}
use Rattle.flow_sets.specs.declared.table.RegisterSite.{RegisterSite}
use Rattle.flow_sets.specs.declared.table.ResultSite.{ResultSite}

abbrev pub is_register_site : RegisterSite → RegisterSite → Bool
is_register_site x y =
    x.function == y.function && x.register == y.register && x.site == y.site

abbrev pub is_result_site : ResultSite → ResultSite → Bool
is_result_site x y = x.function == y.function && x.site == y.site

abbrev pub is_field_site : FieldSite → FieldSite → Bool
is_field_site x y = x.site == y.site && x.field == y.field && x.other == y.other

-- whether a site is in a set
abbrev pub in_table : FlowTable → FlowSet → (site : ℕ) → Bool
in_table t (Only s) x = s == x
in_table t (Register f r) x =
    list_any (is_register_site (record { function = f; register = r; site = x })) t.registers.keys
in_table t (Result f) x =
    list_any (is_result_site (record { function = f; site = x })) t.results.keys
in_table t (Field s field) x =
    list_any (is_field_site (record { site = s; field = field; other = x })) t.fields.keys
in_table t Message x = list_any (λ y. x == y) t.messages.keys
in_table t Sent x = list_any (λ y. x == y) t.sent.keys

-- whether it is the same site in the same set
abbrev pub is_of : FlowSet → (site : ℕ) → FlowSet → (site : ℕ) → Bool
is_of (Only s) x (Only t) y = s == t && x == y
is_of (Register f r) x (Register g q) y = f == g && r == q && x == y
is_of (Result f) x (Result g) y = f == g && x == y
is_of (Field s field) x (Field t other) y = s == t && field == other && x == y
is_of Message x Message y = x == y
is_of Sent x Sent y = x == y
is_of X x Y y = false
