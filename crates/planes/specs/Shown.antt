-- What a picture that is lent shows: its sizes, and what its three planes hold.
use Rattle.planes.specs.Picture.{Picture, picture}
use Rattle.planes.specs.declared.picture.Picture.{Picture as Lent}

abbrev pub shown : Lent → Picture
shown a = picture a.width a.height a.stride a.planes.p0.now a.planes.p1.now a.planes.p2.now
