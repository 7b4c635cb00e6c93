use Rattle.names.proofs.Putting.{put_one}
use Rattle.names.proofs.texts.put_byte.Goals as goal

pub returns : goal.returns
returns c = put_one _ _ _
