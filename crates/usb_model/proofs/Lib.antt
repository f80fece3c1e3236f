-- lists of bytes, and the requests in a log
pub mod Bytes
-- what every function keeps (specs/Kept.antt), by one walk over the definitions; fuel
pub mod Keeps
pub mod Onward
pub mod Walks
pub mod Stores
pub mod Ways
pub mod Primitives
pub mod Record
pub mod Pairs
pub mod Functions
pub mod Cycle
pub mod Accepted
pub mod Entries
pub mod ScanAnswer
-- the bench table (specs/Bench.antt)
pub mod Definitions
pub mod Bench
-- a sound store stays sound
pub mod SoundStores
pub mod SoundPlaces
pub mod SoundSteps
pub mod SoundFunctions
pub mod SoundCycle
pub mod SoundKept
-- a call repeated with more outcomes (specs/Repeat.antt)
pub mod More
pub mod Repeat
-- the requests of a root attach (specs/Count.antt)
pub mod Costs
pub mod Budget
pub mod Asks
pub mod Bound
-- the history (specs/History.antt) and demand 3 (specs/Demand3.antt)
pub mod Reading
pub mod Triples
pub mod Events
pub mod Quiet
pub mod Messages
pub mod Parts
pub mod Resets
pub mod Invariant
pub mod Middle
pub mod Addresses
pub mod Configurations
pub mod Births
pub mod Claims
pub mod Attaches
pub mod Demand3
