use Rattle.std.proofs.Common.{arith, rules}
use Rattle.command_frame.proofs.DeliveryLemmas.{fronts_later}
use Rattle.command_frame.proofs.delivery.deliver_parts.Goals as goal

pub returns-then-is_ok-3 : goal.returns-then-is_ok-3
returns-then-is_ok-3 g c =
    let flushed_out = c.flush-flushed_out.ensures in
    let flushed_err = c.flush-flushed_err.ensures in
    record {
      whole = search rules;
      fronts =
          fronts_later (λ rose. omega (arith, rose, flushed_out.faults))
          (λ rose. omega (arith, rose, flushed_err.faults))
          flushed_out.kept flushed_err.kept (c.write_both-wrote.ensures.fronts c.args.status);
      own_message = search rules;
      kept = search rules;
      cause = search rules;
      out_sound = search rules;
      err_sound = search rules;
      out_faults = search rules;
    }

pub returns-else-is_ok : goal.returns-else-is_ok
returns-else-is_ok g c =
    let flushed_out = c.flush-flushed_out.ensures in
    let flushed_err = c.flush-flushed_err.ensures in
    record {
      whole = search rules;
      fronts =
          fronts_later (λ rose. omega (arith, rose, flushed_out.faults))
          (λ rose. omega (arith, rose, flushed_err.faults))
          flushed_out.kept flushed_err.kept (c.write_both-wrote.ensures.fronts c.args.status);
      own_message = search rules;
      kept = search rules;
      cause = search rules;
      out_sound = search rules;
      err_sound = search rules;
      out_faults = search rules;
    }
