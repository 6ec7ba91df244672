-- What is asked of the box, and which side of a setting it is asked of.
use Rattle.sample.specs.declared.Side.{Side}
use Rattle.sample.specs.declared.Side.TheVariants.{Rgb, Ycc}
use Rattle.setting.specs.declared.Call.{Call}
use Rattle.setting.specs.declared.Call.TheVariants.{Convert, Meter, ImageCheck}
use Rattle.setting.specs.declared.Way.{Way}
use Rattle.setting.specs.declared.Way.TheVariants.{Forward, Reverse}

-- the side that a conversion reads
abbrev pub input_of : Way → Side
input_of Forward = Rgb
input_of Reverse = Ycc

-- the side that a call reads
abbrev pub reads : Call → Side
reads (Convert w) = input_of w
reads Meter = Ycc
reads ImageCheck = Ycc
