-- `witness::show_both` meets its contract: two runs, and demand 3 of them.
-- Assumes nothing.
use Rattle.witness.proofs.Runs.{run_is, both_meet}
use Rattle.witness.proofs.show_both.Goals as goal

pub returns : goal.returns
returns c =
    record {
      first_value = c.show-first.ensures.value;
      second_value = c.show-second.ensures.value;
      decode_after = c.show-first.ensures.decode_after;
      dst_after = c.show-first.ensures.dst_after;
      decode2_after = c.show-second.ensures.decode_after;
      dst2_after = c.show-second.ensures.dst_after;
      demand_three = both_meet c.args.text.now c.args.decode.now c.args.dst.now c.args.text2.now c.args.decode2.now c.args.dst2.now _ _
          (run_is c.args.text.now c.args.decode.now c.args.dst.now _ _ _ c.show-first.ensures.value c.show-first.ensures.decode_after c.show-first.ensures.dst_after)
          (run_is c.args.text2.now c.args.decode2.now c.args.dst2.now _ _ _ c.show-second.ensures.value c.show-second.ensures.decode_after c.show-second.ensures.dst_after);
    }
