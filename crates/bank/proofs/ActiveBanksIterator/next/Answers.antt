use Rattle.std.proofs.Common.{rules, sym, ap, ◌∙◌}
use Rattle.bank.specs.Named.{named}
use Rattle.bank.proofs.Names.{named_on, named_off, named_none}
use Rattle.bank.proofs.ActiveBanksIterator.next.Goals as goal

pub returns-then-is_active-clause-steps : goal.returns-then-is_active-clause-steps
unfolding named
returns-then-is_active-clause-steps c =
    sym c.self.view_is ∙ sym c.loop-bank.invariant.1 ∙ ap (named c.loop-bank.self-inside.bitmap) c.in-Some.ensures.cases.0
    ∙ named_on c.loop-bank.self-inside.bitmap c.in-Some.bank.now c.in-Some.rows.now (sym c.is_active.ensures ∙ c.if-is_active.true)

pub returns-then-is_active-clause-goes : goal.returns-then-is_active-clause-goes
returns-then-is_active-clause-goes c = rw (returns-then-is_active-clause-steps c) (search rules)

pub loop-bank-preserved : goal.loop-bank-preserved
loop-bank-preserved c = (
  c.loop-bank.invariant.0,
  sym (named_off c.loop-bank.self-inside.bitmap c.in-Some.bank.now c.in-Some.rows.now (sym c.is_active.ensures ∙ c.if-is_active.false))
      ∙ sym (ap (named c.loop-bank.self-inside.bitmap) c.in-Some.ensures.cases.0) ∙ c.loop-bank.invariant.1,
)

pub returns-clause-steps : goal.returns-clause-steps
returns-clause-steps c =
    let e = named_none c.loop-bank.self-inside.bitmap c.loop-bank.self-inside.rows.now (c.in_default.ensures).cases in
    (sym c.self.view_is ∙ sym c.loop-bank.invariant.1 ∙ e, e)
