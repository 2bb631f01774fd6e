use Rattle.bank_model.proofs.Ready.{dit_log, dah_log}
use Rattle.bank.proofs.inner.switch.former.Goals as goal

pub centroid_logs-l-requires : goal.centroid_logs-l-requires
centroid_logs-l-requires c = (
  dit_log c.args.p.tracker c.args.p.held c.requires,
  dah_log c.args.p.tracker c.args.p.held c.requires,
)
