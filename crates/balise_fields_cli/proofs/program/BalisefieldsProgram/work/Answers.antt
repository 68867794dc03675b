use Rattle.balise_fields_cli.proofs.Flushed.{kept_by}
use Rattle.balise_program.proofs.Flushes.{flush_counted, flush_done}
use Rattle.balise_fields_cli.proofs.program.BalisefieldsProgram.work.Goals as goal

pub returns : goal.returns
returns g c = record {
  ended = c.run-ended.result;
  flushed = c.is_ok.result;
  exits = c.exit_of.ensures;
  count = c.run-ended.new.writer.failed;
  ran = kept_by c.args.way _ _ _ _ _ _ _ _ _ c.run-ended.result c.flush_buffer-flushed.ensures.bytes c.run-ended.ensures;
  flush_counts = flush_counted _ _ c.flush_buffer-flushed.result c.is_ok.result c.is_ok.ensures.value c.flush_buffer-flushed.ensures.count;
  empty = flush_done c.flush_buffer-flushed.result c.is_ok.result c.is_ok.ensures.value c.flush_buffer-flushed.ensures.empty;
}
