mod Unloading
