-- The region that a lent outline draws.
--   drawn_by o    the region of its coordinates and its ends
use Rattle.region.specs.declared.Outline.{Outline}
use Rattle.region.specs.Region.{Region, region_of}

abbrev pub drawn_by : Outline → Region
drawn_by o = region_of o.coordinates.now o.ends.now
