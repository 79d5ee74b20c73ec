use Rattle.std.proofs.Common.{refl, ap, length, arith, inl}
use Rattle.std.proofs.lemmas.List.{length-map}
use Rattle.std.proofs.lemmas.Iterator.Consumers.{count_from_yields_List, YieldsList-from_first}
use Rattle.bank.specs.Named.{row}
use Rattle.bank.proofs.Laws.{few_banks}
use Rattle.bank.proofs.count.Goals as goal

pub count-requires-clause-fits : goal.count-requires-clause-fits
count-requires-clause-fits c = inl (omega (arith, ap length c.active.ensures, length-map c.active.result row, few_banks c.args.bitmap))

pub returns : goal.returns
returns c =
    let yielded = YieldsList-from_first (λ x. x) (λ x. x) c.active.result refl in
    omega (arith, count_from_yields_List _ _ c.count.ensures.ran yielded, length-map c.active.result row, ap length c.active.ensures)
