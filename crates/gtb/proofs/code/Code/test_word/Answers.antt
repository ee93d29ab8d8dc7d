-- `gtb::code::Code::word_status` meets its contract.
use Rattle.gtb.proofs.Bounds.{bounds}
use Rattle.gtb.proofs.code.Code.test_word.Goals as goal

pub is_narrow-requires : goal.is_narrow-requires
is_narrow-requires c = (bounds _ c.args.self.lawful).b32
