use Rattle.names.proofs.Putting.{put_wrote}
use Rattle.names.proofs.texts.put_text.Goals as goal

pub returns : goal.returns
returns c = put_wrote c.requires c.put_text.ensures
