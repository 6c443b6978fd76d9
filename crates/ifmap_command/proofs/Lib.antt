mod Asking
mod Walking
