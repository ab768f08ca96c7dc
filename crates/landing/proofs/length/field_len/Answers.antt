use Rattle.std.proofs.Common.{◌≡◌, ◌∙◌, ap, length, get_or, []}
use Rattle.csv.specs.Records.{fields_of}
use Rattle.landing.proofs.PlaceFields.{field-is}
use Rattle.landing.proofs.length.field_len.Goals as goal

pub returns-in-Some : goal.returns-in-Some
returns-in-Some c =
    let e = c.in-Some.ensures.value ∙ field-is (fields_of c.args.row.now) c.args.i c.requires in
    let same : c.in-Some.field.now ≡ get_or (fields_of c.args.row.now) c.args.i [] = cc e in
    ap length same

pub returns-in-None : goal.returns-in-None
returns-in-None c =
    let e = c.in-None.ensures.value ∙ field-is (fields_of c.args.row.now) c.args.i c.requires in
    cc e
