use Rattle.bank_model.proofs.Ready.{dit_log, dah_log}
use Rattle.rival.proofs.inner.sound.has_logs.Goals as goal

pub log_of-lo-requires : goal.log_of-lo-requires
log_of-lo-requires c = dit_log _ c.requires.0 c.requires.1

pub log_of-hi-requires : goal.log_of-hi-requires
log_of-hi-requires c = dah_log _ c.requires.0 c.requires.1
