-- How the kinds of refusals are written.
use Rattle.std.specs.Prelude.{ℕ, List, codes}
use Rattle.jd_syntax.specs.declared.fault.ParseKind.{ParseKind}
use Rattle.jd_syntax.specs.declared.fault.ParseKind.TheVariants as kind

abbrev pub kind_name : ParseKind → List ℕ
kind_name kind.Bytes = codes "Bytes"
kind_name kind.Token = codes "Token"
kind_name kind.Form = codes "Form"
kind_name kind.WideNumber = codes "WideNumber"
kind_name kind.TooLong = codes "TooLong"
kind_name kind.TooDeep = codes "TooDeep"
