use Rattle.std.proofs.Common.{rules, ◌∙◌}
use Rattle.std.proofs.lemmas.Result.{err_from_is_err_and}
use Rattle.short_rows.proofs.Last.{four_of, fourth_fails}
use Rattle.short_rows.proofs.row.Row.try_map.Goals as goal

pub returns-in_err-f-in-len4-4 : goal.returns-in_err-f-in-len4-4
returns-in_err-f-in-len4-4 g c =
    let p = err_from_is_err_and c.from_residual-in_err-f-in-len4-4.result c.from_residual-in_err-f-in-len4-4.ensures.1 in
    let listed = four_of c.as_slice.result.now c.a-item-then-this-lt5.result c.b-item-then-this-lt5.result c.c-item-then-this-lt5.result c.d-item.result c.in-len4.len_at_least c.in-len4.len_below c.a-item-then-this-lt5.is c.b-item-then-this-lt5.is c.c-item-then-this-lt5.is c.d-item.is in
    fourth_fails (λ i x r. g.F.Fn.post c.args.f (i, (x, tt)) r) c.args.self.now _ c.a-item-then-this-lt5.result c.b-item-then-this-lt5.result c.c-item-then-this-lt5.result c.d-item.result c.in_ok-f-in-len4.field-0 c.in_ok-f-in-len4-2.field-0 c.in_ok-f-in-len4-3.field-0 p.0 (listed ∙ c.as_slice.ensures.value) p.1 (search rules) (search rules) (search rules) (search rules)
