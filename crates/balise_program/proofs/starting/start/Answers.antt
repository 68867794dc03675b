use Rattle.std.proofs.Common.{◌∙◌, Ok, Err, refl}
use Rattle.balise_program.proofs.starting.start.Goals as goal

pub returns-in-Ok : goal.returns-in-Ok
returns-in-Ok g c = record {
  between = c.args.errors.now;
  does = record { asked = Ok c.in-Ok.asked; asked_so = c.in-Ok.ensures; does = (rw c.report_end.ensures.same c.work-exit.ensures, refl) };
  reports = c.report_end.ensures.reports;
}

pub returns-in-Err : goal.returns-in-Err
returns-in-Err g c = record {
  between = c.show.new.errors;
  does = record { asked = Err c.in-Err.fault; asked_so = c.in-Err.ensures; does = (c.report_end-in-Err.ensures.same ∙ c.exit_after_arguments.ensures, refl, c.show.ensures) };
  reports = c.report_end-in-Err.ensures.reports;
}
