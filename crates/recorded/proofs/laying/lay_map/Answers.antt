-- `recorded::laying::lay_map` meets its contract: the stores in turn are the map's bytes.
-- Rests on MapBytes.
use Rattle.recorded.proofs.MapBytes.{laid}
use Rattle.recorded.proofs.laying.lay_map.Goals as goal

pub returns : goal.returns
returns c = laid c.args.fields.now c.args.map.now c.args.n c.args.l c.requires.2 c.requires.3 c.put_words.ensures c.put_field.ensures c.put_field-2.ensures c.put_field-3.ensures c.put_field-4.ensures c.put_text.ensures.stands
