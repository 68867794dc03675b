use Rattle.balise_cli.proofs.Flushed.{runs_kept}
use Rattle.balise_program.proofs.Flushes.{flush_counted, flush_done}
use Rattle.balise_cli.proofs.program.work.Goals as goal

pub returns : goal.returns
returns g c = record {
  ended = c.run_lines-ended.result;
  flushed = c.is_ok.result;
  exits = c.exit_of.ensures;
  runs = runs_kept c.args.asked _ _ _ _ _ c.flush_buffer-flushed.ensures.bytes c.run_lines-ended.result c.run_lines-ended.ensures.runs;
  count = c.run_lines-ended.new.writer.failed;
  counts = c.run_lines-ended.ensures.counts;
  flush_counts = flush_counted _ _ c.flush_buffer-flushed.result c.is_ok.result c.is_ok.ensures.value c.flush_buffer-flushed.ensures.count;
  empty = flush_done c.flush_buffer-flushed.result c.is_ok.result c.is_ok.ensures.value c.flush_buffer-flushed.ensures.empty;
}
