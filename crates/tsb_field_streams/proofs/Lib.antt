pub mod Examples
pub mod FilterLemmas
-- the text of rows
pub mod RowLemmas
-- what a stream has read, line after line
pub mod ReadLemmas
-- what a stream has written, and how it ends
pub mod StreamLemmas
-- how a stream goes on from read to read
pub mod GoingLemmas
-- which device is blamed
pub mod BlameLemmas
-- the names of devices
pub mod DeviceLemmas
-- the names of channels
pub mod ChannelLemmas
-- zones that rows say
pub mod ZoneLemmas
-- room in the line of a fault
pub mod RoomLemmas
-- rows that are sorted within a window
pub mod SortLemmas
-- rows that are placed and sorted
pub mod OrderLemmas
-- the place of a row in a queue
pub mod PlaceLemmas
