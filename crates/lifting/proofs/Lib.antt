mod Assembling
mod LiftedWhole
mod OriginLengths
mod SameCounts
