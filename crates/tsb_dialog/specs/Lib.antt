-- answers on their way out
pub mod Said
-- what answers lines
pub mod Says
-- what was said to the bytes of a dialog
pub mod Heard
-- how a dialog ends
pub mod Ended
-- which device is blamed for a fault
pub mod Blame
-- what private functions of a dialog promise each other
pub mod Going
