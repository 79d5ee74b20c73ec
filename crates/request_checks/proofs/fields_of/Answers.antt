use Rattle.std.proofs.Common.{arith, refl, sym, ◌∙◌}
use Rattle.bank.proofs.Names.{register_some, register_none}
use Rattle.request_checks.proofs.Laws.{ill_short, ill_fields, well, good_of, good_fields, short_event}
use Rattle.request_checks.proofs.fields_of.Goals as goal
use Rattle.request_checks.proofs.fields_of.Goals.{then-request-lt18-via-then-request-lt18, then-request-lt18-via-else-request-lt18+then-not-fields_good}

pub returns-then-request-lt18 : goal.returns-then-request-lt18
returns-then-request-lt18 c =
    elim c.then-request-lt18.branch [
      | then-request-lt18-via-then-request-lt18 w ↦ ill_short c.args.flags c.args.n c.args.request.now w.if-request-lt18.true
      | then-request-lt18-via-else-request-lt18+then-not-fields_good w ↦ ill_fields c.args.flags c.args.n c.args.request.now (sym w.fields_good.ensures ∙ w.if-not-fields_good.true) w.if-request-lt18.false
    ]

pub returns-in_err-register : goal.returns-in_err-register
returns-in_err-register c =
    let g = good_fields c.args.flags c.args.n c.args.request.now (sym c.fields_good.ensures ∙ c.if-not-fields_good.false) c.if-request-lt18.false in
    absurd (omega (arith, register_none _ (sym c.new.ensures ∙ c.in_err-register.was), g.register, c.get_le.ensures.0))

pub slice_bounds-event-count : goal.slice_bounds-event-count
slice_bounds-event-count c =
    let g = good_fields c.args.flags c.args.n c.args.request.now (sym c.fields_good.ensures ∙ c.if-not-fields_good.false) c.if-request-lt18.false in
    omega (arith, g.sized, c.get_le-size.ensures.0)

pub slice_bounds-event-start : goal.slice_bounds-event-start
slice_bounds-event-start c =
    let g = good_fields c.args.flags c.args.n c.args.request.now (sym c.fields_good.ensures ∙ c.if-not-fields_good.false) c.if-request-lt18.false in
    omega (arith, g.sized, c.get_le-size.ensures.0)

pub slice_bounds-event-end : goal.slice_bounds-event-end
slice_bounds-event-end c =
    let g = good_fields c.args.flags c.args.n c.args.request.now (sym c.fields_good.ensures ∙ c.if-not-fields_good.false) c.if-request-lt18.false in
    omega (arith, g.lent, c.get_le-size.ensures.0)

pub returns : goal.returns
returns c =
    let e = well c.args.flags c.args.n c.args.request.now (sym c.fields_good.ensures ∙ c.if-not-fields_good.false) c.if-request-lt18.false in
    let g = good_of c.args.flags c.args.n c.args.request.now e in (
      e,
      record {
        register = omega (arith, register_some _ _ (sym c.new.ensures ∙ c.in_ok-register.was), g.register, c.get_le.ensures.0);
        kind = c.get_le-kind.ensures.0;
        event = rw c.get_le-size.ensures.0 refl;
        short = rw c.get_le-size.ensures.0 (short_event c.args.request.now g);
      },
    )
