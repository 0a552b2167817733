-- The fields and rows that the code holds, as the definitions have them.
use Rattle.line_objects.specs.declared.values.Field.{Field as FieldHeld}
use Rattle.line_objects.specs.declared.values.Value.{Value as ValueHeld}
use Rattle.line_objects.specs.declared.values.Value.TheVariants as held
use Rattle.line_objects.specs.declared.rows.Part.{Part as PartHeld}
use Rattle.line_objects.specs.declared.rows.Part.TheVariants as part
use Rattle.line_objects.specs.Lines.{Field, Part, Value, any, named, number, numeral, onward, text, told, truth, with, word}

abbrev pub value_held : ValueHeld → Value
value_held (held.Number digits) = number digits.now
value_held (held.Text bytes) = text bytes.now
value_held (held.Truth is) = truth is

abbrev pub field_held : FieldHeld → Field
field_held field = with field.key.now (value_held field.value)

abbrev pub part_held : PartHeld → Part
part_held (part.Word wanted) = word wanted.now
part_held (part.Named key wanted) = named key.now wanted.now
part_held (part.Told key wanted is) = told key.now wanted.now is
part_held (part.Numeral key) = numeral key.now
part_held (part.Any key) = any key.now
part_held (part.Onward key) = onward key.now
